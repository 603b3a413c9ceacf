-- What a walk finds, and which volumes no volume uses.
use Rattle.std.proofs.Common.{◌≡◌, ◌<◌, ◌==◌, ℕ, Bool, true, false, cond, not, Option, None, Some, refl, sym, ◌∙◌, ap, subst, List, [], ◌∷◌, ◌++◌, length, get_or, map, zero, suc, replicate, slice_set, append_assoc, append-nil, reverse, arith}
use Rattle.std.proofs.lemmas.Bool.Decides.{nat_tests}
use Rattle.std.proofs.lemmas.List.{reverse-append, reverse-reverse}
use Rattle.std.proofs.lemmas.List.Elements.{All-head, All-tail, All-weaker}
use Rattle.std.specs.List.{All, filter, find, flat_map}
use Rattle.mdv_base.specs.declared.name.VolId.{VolId}
use Rattle.mdv_plan.specs.Parents.{has_parent}
use Rattle.mdv_plan.specs.declared.plan.Plan.{Plan}
use Rattle.mdv_plan.specs.declared.volume.Volume.{Volume as OneVolume}
use Rattle.mdv_keys.specs.Marks.{AreMarked, below_it, volume_key}
use Rattle.mdv_print.specs.Marks.{unmarked_of}
use Rattle.mdv_plan.specs.Named.{kind_below}
use Rattle.mdv_print.specs.Order.{go_on, is_among, next_of, untold, uppermost, volume_of, walk}
use Rattle.mdv_print.specs.Text.{volume_line, volumes_text}
use Rattle.mdv_keys.proofs.Marking.{marks_more, marks_none}
use Rattle.mdv_keys.proofs.Users.{volumes_among}

abbrev pub has_number : ℕ → OneVolume → Bool
has_number n x = x.number.0 == n

abbrev pub IsSmall : OneVolume → Type 0
IsSmall x = x.number.0 < 8192

-- a volume that is found has the number that was looked for
pub found_number : (n : ℕ) (xs : List OneVolume) (w : OneVolume) → find (has_number n) xs ≡ Some w → w.number.0 ≡ n
found_number n [] w is = cc
found_number n (x ∷ xs) w is =
    let P : Bool → Type 0 = λ b. (has_number n x ≡ b) → cond b (Some x) (find (has_number n) xs) ≡ Some w → w.number.0 ≡ n in
    let yes : P true = λ here same. let e : x ≡ w = cc in let f : x.number.0 ≡ n = grind (arith, nat_tests) in ap (λ (y : OneVolume). y.number.0) (sym e) ∙ f in
    let no : P false = λ here same. found_number n xs w same in
    (elim (has_number n x) as P [ true ↦ yes | false ↦ no ]) refl is

-- what holds of all holds of the one that is found
pub found_holds : (P : OneVolume → Type 0) (q : OneVolume → Bool) (xs : List OneVolume) (w : OneVolume) → All P xs → find q xs ≡ Some w → P w
found_holds P q [] w all is = cc
found_holds P q (x ∷ xs) w all is =
    let R : Bool → Type 0 = λ b. cond b (Some x) (find q xs) ≡ Some w → P w in
    let yes : R true = λ same. let e : x ≡ w = cc in subst P e (All-head P x xs all) in
    let no : R false = λ same. found_holds P q xs w (All-tail P x xs all) same in
    (elim (q x) as R [ true ↦ yes | false ↦ no ]) is

pub untold_is : (p : Plan) (marks : List Bool) (vs : List VolId) (v : VolId) (n : ℕ) (w : OneVolume) → All IsSmall p.volumes → n ≡ v.0 → find (has_number n) p.volumes ≡ Some w → get_or marks v.0 false ≡ false → AreMarked marks vs → Some w ≡ untold p vs v
untold_is p marks vs v n w small same found unmarked are =
    let at : find (has_number v.0) p.volumes ≡ Some w = ap (λ (k : ℕ). find (has_number k) p.volumes) (sym same) ∙ found in
    let within : v.0 < 8192 = subst (λ (k : ℕ). k < 8192) (found_number v.0 p.volumes w at) (found_holds IsSmall (has_number v.0) p.volumes w small at) in
    let among : is_among vs v ≡ false = sym (are.marked v.0 within) ∙ unmarked in
    sym (ap (λ (b : Bool). cond b None (volume_of p v)) among ∙ at)

parent_is : (p : Plan) (v : VolId) → has_parent p v ≡ is_among (flat_map below_it p.volumes) v
parent_is p v = volumes_among v p.volumes

filter_where : (p q : VolId → Bool) (xs : List OneVolume) → All (λ (w : OneVolume). p w.number ≡ q w.number) xs → filter p (map (λ (w : OneVolume). w.number) xs) ≡ filter q (map (λ (w : OneVolume). w.number) xs)
filter_where p q [] all = refl
filter_where p q (x ∷ xs) all =
    let rest = filter_where p q xs (All-tail (λ (w : OneVolume). p w.number ≡ q w.number) x xs all) in
    ap (λ (b : Bool). cond b (x.number ∷ filter p (map (λ (w : OneVolume). w.number) xs)) (filter p (map (λ (w : OneVolume). w.number) xs))) (All-head (λ (w : OneVolume). p w.number ≡ q w.number) x xs all)
    ∙ ap (λ (l : List VolId). cond (q x.number) (x.number ∷ l) l) rest

pub uppermost_is : (p : Plan) (marks : List Bool) → All IsSmall p.volumes → AreMarked marks (flat_map below_it p.volumes) → unmarked_of marks p.volumes ≡ uppermost p
uppermost_is p marks small are =
    let kept : VolId → Bool = λ v. not (get_or marks v.0 false) in
    let free : VolId → Bool = λ v. not (has_parent p v) in
    let same : All (λ (w : OneVolume). kept w.number ≡ free w.number) p.volumes =
    All-weaker IsSmall (λ (w : OneVolume). kept w.number ≡ free w.number) (λ w within. ap not (are.marked w.number.0 within ∙ sym (parent_is p w.number))) p.volumes small
    in
    filter_where kept free p.volumes same

-- how far the lines of a walk have come: the marked volumes are told, and the rest follows from what is left
pub record WalkSoFar (set : Option (List ℕ)) (p : Plan) (all text : List ℕ) (marks : List Bool) (left : List VolId) (n : ℕ) : Type 0 where
  pub told : List VolId
  pub marked : AreMarked marks told
  pub rest : all ≡ text ++ flat_map (volume_line set) (walk n p told (reverse left))

pub walk_begins : (set : Option (List ℕ)) (p : Plan) (text : List ℕ) (volumes left : List VolId) (marks : List Bool) → left ≡ reverse volumes → marks ≡ replicate 8192 false → WalkSoFar set p (text ++ volumes_text set p volumes) text marks left (length p.volumes)
walk_begins set p text volumes left marks is none =
    record {
      told = [];
      marked = subst (λ (m : List Bool). AreMarked m []) (sym none) (marks_none volume_key 8192);
      rest = ap (λ (l : List VolId). text ++ flat_map (volume_line set) (walk (length p.volumes) p [] l)) (sym (ap reverse is ∙ reverse-reverse volumes));
    }

pub walk_goes_on : (set : Option (List ℕ)) (p : Plan) (all text grown : List ℕ) (marks new : List Bool) (left later next : List VolId) (n : ℕ) (w : OneVolume) →
    ((vs : List VolId) → AreMarked marks vs → next_of p vs (reverse left) ≡ Some (w, reverse later)) → grown ≡ text ++ volume_line set w → new ≡ slice_set marks w.number.0 true → next ≡ later ++ reverse (kind_below w.kind) →
    WalkSoFar set p all text marks left (suc n) → WalkSoFar set p all grown new next n
walk_goes_on set p all text grown marks new left later next n w found line mark below far =
    let vs = far.told in
    let order : reverse next ≡ kind_below w.kind ++ reverse later = ap reverse below ∙ reverse-append later (reverse (kind_below w.kind)) ∙ ap (λ (l : List VolId). l ++ reverse later) (reverse-reverse (kind_below w.kind)) in
    let later_text : List VolId → List ℕ = λ l. flat_map (volume_line set) (walk n p (vs ++ w.number ∷ []) l) in
    record {
      told = vs ++ w.number ∷ [];
      marked = subst (λ (m : List Bool). AreMarked m (vs ++ w.number ∷ [])) (sym mark) (marks_more volume_key 8192 marks vs w.number far.marked);
      rest = far.rest
          ∙ ap (λ (o : Option (OneVolume × List VolId)). text ++ flat_map (volume_line set) (go_on o (λ x l. walk n p (vs ++ x.number ∷ []) (kind_below x.kind ++ l)))) (found vs far.marked)
          ∙ sym (append_assoc text (volume_line set w) (later_text (kind_below w.kind ++ reverse later)))
          ∙ ap (λ (l : List ℕ). l ++ later_text (kind_below w.kind ++ reverse later)) (sym line)
          ∙ ap (λ (l : List VolId). grown ++ later_text l) (sym order);
    }

nothing_left : (set : Option (List ℕ)) (p : Plan) (vs later : List VolId) (n : ℕ) → next_of p vs later ≡ None → flat_map (volume_line set) (walk n p vs later) ≡ []
nothing_left set p vs later zero none = refl
nothing_left set p vs later (suc n) none = ap (λ (o : Option (OneVolume × List VolId)). flat_map (volume_line set) (go_on o (λ x l. walk n p (vs ++ x.number ∷ []) (kind_below x.kind ++ l)))) none

pub walk_ends : (set : Option (List ℕ)) (p : Plan) (all text : List ℕ) (marks : List Bool) (left : List VolId) (n : ℕ) → ((vs : List VolId) → AreMarked marks vs → next_of p vs (reverse left) ≡ None) → WalkSoFar set p all text marks left n → text ≡ all
walk_ends set p all text marks left n none far =
    sym (far.rest ∙ ap (λ (l : List ℕ). text ++ l) (nothing_left set p far.told (reverse left) n (none far.told far.marked)) ∙ append-nil text)

pub walk_full : (set : Option (List ℕ)) (p : Plan) (all text : List ℕ) (marks : List Bool) (left : List VolId) (n : ℕ) → n ≡ 0 → WalkSoFar set p all text marks left n → text ≡ all
walk_full set p all text marks left n none far =
    sym (far.rest ∙ ap (λ (k : ℕ). text ++ flat_map (volume_line set) (walk k p far.told (reverse left))) none ∙ append-nil text)
