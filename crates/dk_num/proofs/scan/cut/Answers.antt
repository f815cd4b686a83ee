use Rattle.std.proofs.Common.{◌≡◌, ℕ, List, ◌++◌, take, drop, sym, append_assoc, take-append-drop}
use Rattle.dk_num.specs.Numbers.{Spelling, spelled}
use Rattle.dk_num.proofs.scan.cut.Goals as goal

pieces : (text front back : List ℕ) (n : ℕ) → front ≡ take n text → back ≡ drop n text → text ≡ front ++ back
pieces text front back n f b = rw (f, b) (sym (take-append-drop n text))

glued : (text t1 t2 t3 t4 t5 t6 rest : List ℕ) (s : Spelling) → text ≡ s.sign ++ t1 → t1 ≡ s.whole ++ t2 → t2 ≡ s.point ++ t3 → t3 ≡ s.fraction ++ t4 →
    t4 ≡ s.mark ++ t5 → t5 ≡ s.exponent_sign ++ t6 → t6 ≡ s.exponent ++ rest → text ≡ spelled s ++ rest
glued text t1 t2 t3 t4 t5 t6 rest s e0 e1 e2 e3 e4 e5 e6 = rw (e0, e1, e2, e3, e4, e5, e6) (sym (simp append_assoc))

pub returns-clause-bytes : goal.returns-clause-bytes
returns-clause-bytes c =
    glued c.args.text.now c.split_at.result.1.now c.split_at-2.result.1.now c.split_at-3.result.1.now c.split_at-4.result.1.now c.split_at-5.result.1.now c.split_at-6.result.1.now c.split_at-7.result.1.now
    (record { sign = c.split_at.result.0.now; whole = c.split_at-2.result.0.now; point = c.split_at-3.result.0.now; fraction = c.split_at-4.result.0.now; mark = c.split_at-5.result.0.now; exponent_sign = c.split_at-6.result.0.now; exponent = c.split_at-7.result.0.now })
    (pieces _ _ _ _ c.split_at.ensures.front c.split_at.ensures.back)
    (pieces _ _ _ _ c.split_at-2.ensures.front c.split_at-2.ensures.back)
    (pieces _ _ _ _ c.split_at-3.ensures.front c.split_at-3.ensures.back)
    (pieces _ _ _ _ c.split_at-4.ensures.front c.split_at-4.ensures.back)
    (pieces _ _ _ _ c.split_at-5.ensures.front c.split_at-5.ensures.back)
    (pieces _ _ _ _ c.split_at-6.ensures.front c.split_at-6.ensures.back)
    (pieces _ _ _ _ c.split_at-7.ensures.front c.split_at-7.ensures.back)
