-- Files in memory, looked up.
use Rattle.std.proofs.Common.{◌≡◌, ◌≢◌, ℕ, zero, suc, ◌+◌, ◌<◌, ◌≤◌, Bool, true, false, cond, List, [], ◌∷◌, ◌++◌, length, take, drop, get_or, Option, Some, None, option_map, refl, sym, ap, ◌∙◌, arith}
use Rattle.std.specs.Prelude.{Result, Ok, Err, IsOk, is_ok}
use Rattle.std.specs.List.{find, remove}
use Rattle.std.proofs.lemmas.List.{take_more, take-append-le, take-take, length-take}
use Rattle.std.specs.Str.{bytes_eq}
use Rattle.std.proofs.lemmas.Slice.Eq.{bytes_eq-Decides}
use Rattle.dk_memory.specs.declared.files.File.{File}
use Rattle.dk_memory.specs.Files.{look, AreSet}

-- the test of a name, where its answer is known
found : (file : File) (name : List ℕ) (rest : Option File) (b : Bool) → bytes_eq file.name name ≡ b →
    option_map (λ (f : File). f.bytes) (cond (bytes_eq file.name name) (Some file) rest) ≡ option_map (λ (f : File). f.bytes) (cond b (Some file) rest)
found file name rest b e = ap (λ (t : Bool). option_map (λ (f : File). f.bytes) (cond t (Some file) rest)) e

-- a file of another name finds nothing here
passed : (file : File) (files : List File) (name : List ℕ) → file.name ≢ name → look (file ∷ files) name ≡ look files name
passed file files name apart = at (bytes_eq file.name name) refl
  where
    at : (t : Bool) → bytes_eq file.name name ≡ t → look (file ∷ files) name ≡ look files name
    at true h = absurd (apart ((bytes_eq-Decides file.name name).0 h))
    at false h = found file name (find (λ (f : File). bytes_eq f.name name) files) false h

-- two lists that look alike behind one file look alike
alike : (file : File) (one two : List File) (name : List ℕ) → look one name ≡ look two name → look (file ∷ one) name ≡ look (file ∷ two) name
alike file one two name h = at (bytes_eq file.name name) refl
  where
    at : (t : Bool) → bytes_eq file.name name ≡ t → look (file ∷ one) name ≡ look (file ∷ two) name
    at true e = found file name (find (λ (f : File). bytes_eq f.name name) one) true e ∙ sym (found file name (find (λ (f : File). bytes_eq f.name name) two) true e)
    at false e = found file name (find (λ (f : File). bytes_eq f.name name) one) false e ∙ h ∙ sym (found file name (find (λ (f : File). bytes_eq f.name name) two) false e)

-- behind files of other names it is found
last_found : (files : List File) (file : File) → look files file.name ≡ None → look (files ++ file ∷ []) file.name ≡ Some file.bytes
last_found files file none = at files none
  where
    at : (fs : List File) → look fs file.name ≡ None → look (fs ++ file ∷ []) file.name ≡ Some file.bytes
    at [] h = found file file.name None true ((bytes_eq-Decides file.name file.name).1 refl)
    at (f ∷ fs) h = by (bytes_eq f.name file.name) refl h (at fs)
      where
        by : (t : Bool) → bytes_eq f.name file.name ≡ t → look (f ∷ fs) file.name ≡ None → (look fs file.name ≡ None → look (fs ++ file ∷ []) file.name ≡ Some file.bytes) → look (f ∷ (fs ++ file ∷ [])) file.name ≡ Some file.bytes
        by true e h k = absurd (let z : Some f.bytes ≡ None = sym (found f file.name (find (λ (g : File). bytes_eq g.name file.name) fs) true e) ∙ h in cc)
        by false e h k = found f file.name (find (λ (g : File). bytes_eq g.name file.name) (fs ++ file ∷ [])) false e ∙ k (sym (found f file.name (find (λ (g : File). bytes_eq g.name file.name) fs) false e) ∙ h)

last_other : (files : List File) (file : File) (other : List ℕ) → other ≢ file.name → look (files ++ file ∷ []) other ≡ look files other
last_other [] file other apart = passed file [] other (λ is. apart (sym is))
last_other (f ∷ files) file other apart = alike f (files ++ file ∷ []) files other (last_other files file other apart)

-- a file that was removed isn't missed under another name
pub removing : (files : List File) (i : ℕ) (d : File) (name other : List ℕ) → i < length files → (get_or files i d).name ≡ name → other ≢ name → look (remove files i) other ≡ look files other
removing [] i d name other within is apart = absurd (omega arith)
removing (file ∷ files) zero d name other within is apart = sym (passed file files other (λ e. apart (sym e ∙ is)))
removing (file ∷ files) (suc i) d name other within is apart = alike file (remove files i) files other (removing files i d name other (omega arith) is apart)

-- none of the files before a place has the name: so it is before a file that is removed there
pub none_before : (files : List File) (i : ℕ) (name : List ℕ) → i < length files → look (take i files) name ≡ None → look (take i (remove files i)) name ≡ None
none_before files i name within none =
    let long : i ≤ length (take i files) = grind (arith, length-take {A = File}) in
    ap (λ (l : List File). look l name) (take-append-le i (take i files) (drop (suc i) files) long ∙ take-take i i files (omega arith)) ∙ none

-- and one place on, behind a file of another name
pub none_so_far : (files : List File) (i : ℕ) (d : File) (name : List ℕ) → i < length files → name ≢ (get_or files i d).name → look (take i files) name ≡ None → look (take (i + 1) files) name ≡ None
none_so_far files i d name within apart none =
    ap (λ (l : List File). look l name) (take_more files i d within) ∙ last_other (take i files) (get_or files i d) name apart ∙ none

-- a file that is pushed behind files of other names, for which there was room
pub put_last : {E : Type 0} (old files new : List File) (file : File) (result : Result (Unit {0}) E) → AreSet old files file.name None →
    new ≡ cond (is_ok result) (files ++ file ∷ []) files → IsOk result → AreSet old new file.name (Some file.bytes)
put_last old files new file (Ok done) gone is room = rw is (record {
  others = λ other apart. last_other files file other apart ∙ gone.others other apart;
  file = last_found files file gone.file;
})
put_last old files new file (Err e) gone is room = let never : false ≡ true = room in cc
