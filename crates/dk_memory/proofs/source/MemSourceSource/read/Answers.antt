use Rattle.std.proofs.Common.{◌≡◌, ℕ, ◌+◌, ◌-◌, ◌<◌, ◌≤◌, List, [], ◌++◌, length, take, drop, min, refl, ap, sym, ◌∙◌, arith, length-append, length-take, length-drop}
use Rattle.std.proofs.lemmas.List.{take_rest, take-append-drop, drop-drop, take_at, drop_all}
use Rattle.dk_memory.proofs.source.MemSourceSource.read.Goals as goal

-- the bytes that were given, and those that are left
given : (bytes copy buf rest read : List ℕ) (at n : ℕ) → read ≡ bytes → rest ≡ take (length read - at) (drop at read) → n ≡ min (length rest) (length buf) →
    copy ≡ take n rest → length copy ≡ length (take n buf) →
    (drop at bytes ≡ take n (copy ++ drop n buf) ++ drop (at + n) bytes) × (n ≡ 0 → 0 < length (copy ++ drop n buf) → drop (at + n) bytes ≡ [])
given bytes copy buf rest read at n same is count copied long =
    let left : rest ≡ drop at bytes = is ∙ take_rest read at ∙ ap (drop at) same in
    let short : length copy ≡ n = long ∙ length-take n buf ∙ omega arith in
    let front : take n (copy ++ drop n buf) ≡ take n (drop at bytes) = take_at copy (drop n buf) n short ∙ copied ∙ ap (take n) left in
    let behind : drop (at + n) bytes ≡ drop n (drop at bytes) = sym (drop-drop n at bytes) in (
      sym (take-append-drop n (drop at bytes)) ∙ ap (λ t. t ++ drop n (drop at bytes)) (sym front) ∙ ap (λ t. take n (copy ++ drop n buf) ++ t) (sym behind),
      λ none some.
          let room : 0 < length buf = (let l = length-append copy (drop n buf) in let d = length-drop n buf in omega arith) in
          let ended : length (drop at bytes) ≤ n = (let e = ap length left in omega arith) in
          behind ∙ drop_all n (drop at bytes) ended,
    )

pub returns-clause-bytes : goal.returns-clause-bytes
returns-clause-bytes c =
    let h = given c.self.inside.bytes.items _ c.args.buf.now _ _ c.self.inside.at _ c.deref.ensures.value refl c.min-count.ensures c.copy_from_slice.ensures.after c.copy_from_slice.ensures.len in
    (sym (ap (λ s. s.left) c.self.view_is) ∙ h.0, h.1)
