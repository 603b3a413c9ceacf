-- A chunk that takes more from its source leaves what is to come as it was.
use Rattle.std.proofs.Common.{◌≡◌, ◌≤◌, ℕ, List, [], ◌++◌, take, drop, Option, Some, None, refl, sym, ap, ◌∙◌, arith}
use Rattle.std.proofs.lemmas.List.{take-append-drop, drop_all, length-take}
use Rattle.std.proofs.lemmas.Option.{none-some}
use Rattle.mdv_port.specs.Source.{Takes}
use Rattle.mdv_port.specs.Reader.{to_come}

pub taken_comes : (n : ℕ) (out : List ℕ) (left new : Option (List ℕ)) → ((bytes : List ℕ) → left ≡ Some bytes → Takes bytes n out new) → (left ≡ None → new ≡ None) → to_come (take n out) new ≡ to_come [] left
taken_comes n out None new takes silent = ap (to_come (take n out)) (silent refl)
taken_comes n out (Some bytes) new takes silent =
    let t : Takes bytes n out new = takes bytes refl in
    ap (to_come (take n out)) t.rest ∙ ap (λ (l : List ℕ). to_come l (Some (drop n bytes))) t.given ∙ ap Some (take-append-drop n bytes)

-- nothing is unread where the front has come to the end
pub none_unread : (start end : ℕ) (bytes : List ℕ) → end ≤ start → drop start (take end bytes) ≡ []
none_unread start end bytes le = drop_all start (take end bytes) (omega (arith, length-take {A = ℕ}))

-- a source that tells nothing tells nothing afterwards
pub still_silent : (u v : List ℕ) (left new : Option (List ℕ)) → to_come v new ≡ to_come u left → left ≡ None → new ≡ None
still_silent u v None None same none = refl
still_silent u v None (Some rest) same none = absurd (none-some (v ++ rest) (sym same))
still_silent u v (Some rest) new same some = absurd (none-some rest (sym some))
