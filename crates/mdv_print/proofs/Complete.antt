-- A walk from the uppermost volumes tells each volume once.
use Rattle.std.proofs.Common.{◌≡◌, ◌≢◌, ◌<◌, ◌≤◌, ◌+◌, ◌==◌, ◌||◌, ◌⊎◌, ℕ, zero, suc, Bool, true, false, cond, not, Option, None, Some, refl, sym, ◌∙◌, ap, subst, List, [], ◌∷◌, ◌++◌, length, get_or, map, append_assoc, append-nil, inl, inr, arith}
use Rattle.std.proofs.lemmas.Bool.Decides.{nat_tests}
use Rattle.std.proofs.lemmas.List.Elements.{All-cons, All-head, All-nil, All-tail, All-weaker}
use Rattle.std.proofs.lemmas.List.Kept.{AllPairs-cons}
use Rattle.std.proofs.lemmas.List.Folds.{list_any-append}
use Rattle.std.specs.List.{All, AllPairs, filter, find, list_any}
use Rattle.mdv_base.specs.declared.name.VolId.{VolId}
use Rattle.mdv_plan.specs.Parents.{has_parent, names_volume}
use Rattle.mdv_plan.specs.Sorted.{IsAscending}
use Rattle.mdv_plan.specs.declared.plan.Plan.{Plan}
use Rattle.mdv_plan.specs.declared.volume.Volume.{Volume as OneVolume}
use Rattle.mdv_print.specs.Layers.{AreAllVolumes, IsLayered}
use Rattle.mdv_plan.specs.Named.{kind_below}
use Rattle.mdv_print.specs.Order.{first_or, go_on, is_among, next_of, untold, uppermost, volume_of, walk, with_below}
use Rattle.mdv_keys.proofs.Marking.{any_more}
use Rattle.mdv_keys.proofs.Users.{kind_among}
use Rattle.mdv_keys.specs.Marks.{volume_key}
use Rattle.mdv_print.proofs.Printed.{walk_holds}
use Rattle.mdv_print.proofs.Walking.{found_holds, found_number, has_number}

-- the volume is the plan's of its number
abbrev pub IsOwn : Plan → OneVolume → Type 0
IsOwn p x = volume_of p x.number ≡ Some x

same_volume : (x w : OneVolume) → Some x ≡ Some w → x ≡ w
same_volume x w is = cc

pub or_left : (a b : Bool) → a ≡ true → (a || b) ≡ true
or_left true b is = refl
or_left false b is = cc

pub or_right : (a b : Bool) → b ≡ true → (a || b) ≡ true
or_right true b is = refl
or_right false b is = is

or_cases : (a b : Bool) → (a || b) ≡ true → (a ≡ true) ⊎ (b ≡ true)
or_cases true b is = inl refl
or_cases false b is = inr is

among_append : (xs ys : List VolId) (v : VolId) → is_among (xs ++ ys) v ≡ (is_among xs v || is_among ys v)
among_append xs ys v = list_any-append (λ (w : VolId). w.0 == v.0) xs ys

among_number : (xs : List VolId) (u v : VolId) → u.0 ≡ v.0 → is_among xs u ≡ is_among xs v
among_number xs u v is = ap (λ (n : ℕ). list_any (λ (w : VolId). w.0 == n) xs) is

-- how many volumes aren't told yet
abbrev rem : List VolId → List OneVolume → ℕ
rem told [] = 0
rem told (x ∷ xs) = cond (is_among told x.number) (rem told xs) (suc (rem told xs))

most_of : (b : Bool) (r n : ℕ) → r ≤ n → cond b r (suc r) ≤ suc n
most_of true r n is = omega arith
most_of false r n is = omega arith

rem_most : (told : List VolId) (xs : List OneVolume) → rem told xs ≤ length xs
rem_most told [] = omega arith
rem_most told (x ∷ xs) = most_of (is_among told x.number) (rem told xs) (length xs) (rem_most told xs)

no_more : (b c : Bool) (r s : ℕ) → (b ≡ true → c ≡ true) → s ≤ r → cond c s (suc s) ≤ cond b r (suc r)
no_more true true r s keeps is = is
no_more true false r s keeps is = let never = keeps refl in cc
no_more false true r s keeps is = omega arith
no_more false false r s keeps is = omega arith

fewer : (b c : Bool) (r s : ℕ) → (b ≡ true → c ≡ true) → s < r → cond c s (suc s) < cond b r (suc r)
fewer true true r s keeps is = is
fewer true false r s keeps is = let never = keeps refl in cc
fewer false true r s keeps is = omega arith
fewer false false r s keeps is = omega arith

one_fewer : (b c : Bool) (r s : ℕ) → b ≡ false → c ≡ true → s ≤ r → cond c s (suc s) < cond b r (suc r)
one_fewer true c r s not_b is_c is = cc
one_fewer false false r s not_b is_c is = cc
one_fewer false true r s not_b is_c is = omega arith

keeps_among : (told : List VolId) (v u : VolId) → is_among told u ≡ true → is_among (told ++ v ∷ []) u ≡ true
keeps_among told v u is = any_more volume_key told v u.0 ∙ or_left (is_among told u) (v.0 == u.0) is

rem_more : (told : List VolId) (v : VolId) (xs : List OneVolume) → rem (told ++ v ∷ []) xs ≤ rem told xs
rem_more told v [] = omega arith
rem_more told v (x ∷ xs) = no_more (is_among told x.number) (is_among (told ++ v ∷ []) x.number) (rem told xs) (rem (told ++ v ∷ []) xs) (keeps_among told v x.number) (rem_more told v xs)

pub same_number : (n : ℕ) → (n == n) ≡ true
same_number n = grind (arith, nat_tests)

rem_less : (told : List VolId) (n : ℕ) (w : OneVolume) (xs : List OneVolume) → find (has_number n) xs ≡ Some w → is_among told w.number ≡ false → rem (told ++ w.number ∷ []) xs < rem told xs
rem_less told n w [] found fresh = cc
rem_less told n w (x ∷ xs) found fresh =
    let more = told ++ w.number ∷ [] in
    let P : Bool → Type 0 = λ b. cond b (Some x) (find (has_number n) xs) ≡ Some w → rem more (x ∷ xs) < rem told (x ∷ xs) in
    let yes : P true =
    λ is.
    let e : x ≡ w = same_volume x w is in
    let here : is_among more x.number ≡ true = any_more volume_key told w.number x.number.0 ∙ or_right (is_among told x.number) (w.number.0 == x.number.0) (ap (λ (y : OneVolume). w.number.0 == y.number.0) e ∙ same_number w.number.0) in
    let new : is_among told x.number ≡ false = ap (λ (y : OneVolume). is_among told y.number) e ∙ fresh in
    one_fewer (is_among told x.number) (is_among more x.number) (rem told xs) (rem more xs) new here (rem_more told w.number xs)
    in
    let no : P false = λ is. fewer (is_among told x.number) (is_among more x.number) (rem told xs) (rem more xs) (keeps_among told w.number x.number) (rem_less told n w xs is fresh) in
    (elim (has_number n x) as P [ true ↦ yes | false ↦ no ]) found

none_left : (b : Bool) (r : ℕ) → cond b r (suc r) ≡ 0 → (b ≡ true) × (r ≡ 0)
none_left true r is = (refl, is)
none_left false r is = absurd (omega arith)

rem_zero : (told : List VolId) (n : ℕ) (w : OneVolume) (xs : List OneVolume) → rem told xs ≡ 0 → find (has_number n) xs ≡ Some w → is_among told w.number ≡ true
rem_zero told n w [] none found = cc
rem_zero told n w (x ∷ xs) none found =
    let parts = none_left (is_among told x.number) (rem told xs) none in
    let P : Bool → Type 0 = λ b. cond b (Some x) (find (has_number n) xs) ≡ Some w → is_among told w.number ≡ true in
    let yes : P true = λ is. ap (λ (y : OneVolume). is_among told y.number) (sym (same_volume x w is)) ∙ parts.0 in
    let no : P false = λ is. rem_zero told n w xs parts.1 is in
    (elim (has_number n x) as P [ true ↦ yes | false ↦ no ]) found

-- of an untold volume: it isn't among those told
untold_fresh : (p : Plan) (told : List VolId) (v : VolId) (w : OneVolume) → untold p told v ≡ Some w → (is_among told v ≡ false) × (volume_of p v ≡ Some w)
untold_fresh p told v w is =
    let Q : Bool → Type 0 = λ b. (is_among told v ≡ b) → cond b None (volume_of p v) ≡ Some w → (is_among told v ≡ false) × (volume_of p v ≡ Some w) in
    let yes : Q true = λ here never. cc in
    let no : Q false = λ here found. (here, found) in
    (elim (is_among told v) as Q [ true ↦ yes | false ↦ no ]) refl is

-- what is known of the next volume
record IsStep (p : Plan) (told vs later : List VolId) (w : OneVolume) : Type 0 where
  found : volume_of p w.number ≡ Some w
  fresh : is_among told w.number ≡ false
  others : (v : VolId) (x : OneVolume) → is_among vs v ≡ true → volume_of p v ≡ Some x → (is_among told v ≡ true) ⊎ ((w.number.0 ≡ v.0) ⊎ (is_among later v ≡ true))

abbrev pair_volume : Option (OneVolume × List VolId) → OneVolume → OneVolume
pair_volume None d = d
pair_volume (Some x) d = x.0

abbrev pair_rest : Option (OneVolume × List VolId) → List VolId → List VolId
pair_rest None d = d
pair_rest (Some x) d = x.1

eq_number : (m n : ℕ) → (m == n) ≡ true → m ≡ n
eq_number m n is = grind (arith, nat_tests)

-- one that was passed is told
skipped : (p : Plan) (told : List VolId) (v u : VolId) (x : OneVolume) → untold p told v ≡ None → v.0 ≡ u.0 → volume_of p u ≡ Some x → is_among told u ≡ true
skipped p told v u x none same at =
    let found : volume_of p v ≡ Some x = ap (λ (n : ℕ). find (has_number n) p.volumes) same ∙ at in
    let Q : Bool → Type 0 = λ b. (is_among told v ≡ b) → cond b None (volume_of p v) ≡ None → is_among told v ≡ true in
    let yes : Q true = λ here never. here in
    let no : Q false = λ here never. cc in
    among_number told u v (sym same) ∙ (elim (is_among told v) as Q [ true ↦ yes | false ↦ no ]) refl none

step_is : (p : Plan) (told vs later : List VolId) (w : OneVolume) → next_of p told vs ≡ Some (w, later) → IsStep p told vs later w
step_is p told [] later w is = cc
step_is p told (v ∷ vs) later w is =
    let Q : Option OneVolume → Type 0 = λ o. (untold p told v ≡ o) → first_or o vs (next_of p told vs) ≡ Some (w, later) → IsStep p told (v ∷ vs) later w in
    let none : Q None =
    λ here same.
    let far = step_is p told vs later w same in
    record {
      found = far.found;
      fresh = far.fresh;
      others = λ u x among at. elim (or_cases (v.0 == u.0) (is_among vs u) among) [
        | inl first ↦ inl (skipped p told v u x here (eq_number v.0 u.0 first) at)
        | inr rest ↦ far.others u x rest at
      ];
    }
    in
    let some : (x : OneVolume) → Q (Some x) =
    λ x here same.
    let e : x ≡ w = ap (λ (o : Option (OneVolume × List VolId)). pair_volume o w) same in
    let l : vs ≡ later = ap (λ (o : Option (OneVolume × List VolId)). pair_rest o later) same in
    let new = untold_fresh p told v w (here ∙ ap Some e) in
    let number : w.number.0 ≡ v.0 = found_number v.0 p.volumes w new.1 in
    record {
      found = ap (λ (n : ℕ). find (has_number n) p.volumes) number ∙ new.1;
      fresh = among_number told w.number v number ∙ new.0;
      others = λ u y among at. elim (or_cases (v.0 == u.0) (is_among vs u) among) [
        | inl first ↦ inr (inl (number ∙ eq_number v.0 u.0 first))
        | inr rest ↦ inr (inr (ap (λ (m : List VolId). is_among m u) (sym l) ∙ rest))
      ];
    }
    in
    (elim (untold p told v) as Q [ None ↦ none | Some x ↦ some x ]) refl is

all_skipped : (p : Plan) (told vs : List VolId) (v : VolId) (x : OneVolume) → next_of p told vs ≡ None → is_among vs v ≡ true → volume_of p v ≡ Some x → is_among told v ≡ true
all_skipped p told [] v x none among at = cc
all_skipped p told (u ∷ vs) v x none among at =
    let Q : Option OneVolume → Type 0 = λ o. (untold p told u ≡ o) → first_or o vs (next_of p told vs) ≡ None → is_among told v ≡ true in
    let no : Q None = λ here rest. elim (or_cases (u.0 == v.0) (is_among vs v) among) [
      | inl first ↦ skipped p told u v x here (eq_number u.0 v.0 first) at
      | inr later ↦ all_skipped p told vs v x rest later at
    ]
    in
    let some : (y : OneVolume) → Q (Some y) = λ y here never. cc in
    (elim (untold p told u) as Q [ None ↦ no | Some y ↦ some y ]) refl none

-- every volume below is among these
abbrev HasBelow : Plan → List VolId → OneVolume → Type 0
HasBelow p all x = (u : VolId) (w : OneVolume) → is_among (kind_below x.kind) u ≡ true → volume_of p u ≡ Some w → is_among all u ≡ true

record IsComplete (p : Plan) (told vs : List VolId) (res : List OneVolume) : Type 0 where
  named : (u : VolId) (w : OneVolume) → is_among vs u ≡ true → volume_of p u ≡ Some w → is_among (told ++ map (λ (x : OneVolume). x.number) res) u ≡ true
  closed : All (HasBelow p (told ++ map (λ (x : OneVolume). x.number) res)) res

stopped : (p : Plan) (told vs : List VolId) → ((u : VolId) (w : OneVolume) → is_among vs u ≡ true → volume_of p u ≡ Some w → is_among told u ≡ true) → IsComplete p told vs []
stopped p told vs all = record { named = λ u w among at. ap (λ (l : List VolId). is_among l u) (append-nil told) ∙ all u w among at; closed = All-nil (HasBelow p (told ++ [])) }

complete_step : (p : Plan) (n : ℕ) (told vs later : List VolId) (w : OneVolume) → IsStep p told vs later w → IsComplete p (told ++ w.number ∷ []) (kind_below w.kind ++ later) (walk n p (told ++ w.number ∷ []) (kind_below w.kind ++ later)) →
    IsComplete p told vs (w ∷ walk n p (told ++ w.number ∷ []) (kind_below w.kind ++ later))
complete_step p n told vs later w step far =
    let rest = walk n p (told ++ w.number ∷ []) (kind_below w.kind ++ later) in
    let numbers = map (λ (x : OneVolume). x.number) rest in
    let place : (told ++ w.number ∷ []) ++ numbers ≡ told ++ w.number ∷ numbers = append_assoc told (w.number ∷ []) numbers in
    let all = told ++ w.number ∷ numbers in
    let move : (u : VolId) → is_among ((told ++ w.number ∷ []) ++ numbers) u ≡ true → is_among all u ≡ true = λ u is. ap (λ (l : List VolId). is_among l u) (sym place) ∙ is in
    let here : HasBelow p all w = λ u x among at. move u (far.named u x (among_append (kind_below w.kind) later u ∙ or_left (is_among (kind_below w.kind) u) (is_among later u) among) at) in
    record {
      named = λ u x among at. elim (step.others u x among at) [
        | inl old ↦ among_append told (w.number ∷ numbers) u ∙ or_left (is_among told u) (is_among (w.number ∷ numbers) u) old
        | inr new ↦ elim new [
          | inl same ↦ among_append told (w.number ∷ numbers) u ∙ or_right (is_among told u) (is_among (w.number ∷ numbers) u) (or_left (w.number.0 == u.0) (is_among numbers u) (ap (λ (k : ℕ). w.number.0 == k) (sym same) ∙ same_number w.number.0))
          | inr behind ↦ move u (far.named u x (among_append (kind_below w.kind) later u ∙ or_right (is_among (kind_below w.kind) u) (is_among later u) behind) at)
        ]
      ];
      closed = All-cons (HasBelow p all) w rest here (subst (λ (l : List VolId). All (HasBelow p l) rest) place far.closed);
    }

complete : (p : Plan) (n : ℕ) (told vs : List VolId) → rem told p.volumes ≤ n → IsComplete p told vs (walk n p told vs)
complete p zero told vs small =
    let none : rem told p.volumes ≡ 0 = omega arith in
    stopped p told vs (λ u w among at. let is = rem_zero told u.0 w p.volumes none at in among_number told u w.number (sym (found_number u.0 p.volumes w at)) ∙ is)
complete p (suc n) told vs small =
    let next : OneVolume → List VolId → List OneVolume = λ w later. walk n p (told ++ w.number ∷ []) (kind_below w.kind ++ later) in
    let Q : Option (OneVolume × List VolId) → Type 0 = λ o. (next_of p told vs ≡ o) → IsComplete p told vs (go_on o next) in
    let none : Q None = λ here. stopped p told vs (λ u w among at. all_skipped p told vs u w here among at) in
    let some : (x : OneVolume × List VolId) → Q (Some x) = λ x here. complete_step p n told vs x.1 x.0 (step_is p told vs x.1 x.0 here) (complete p n (told ++ x.0.number ∷ []) (kind_below x.0.kind ++ x.1) (let less = rem_less told x.0.number.0 x.0 p.volumes (step_is p told vs x.1 x.0 here).found (step_is p told vs x.1 x.0 here).fresh in omega arith)) in
    (elim (next_of p told vs) as Q [ None ↦ none | Some x ↦ some x ]) refl

-- a volume of the plan that is among the numbers is found
found_in : (p : Plan) (res : List OneVolume) (v : VolId) (w : OneVolume) → All (IsOwn p) res → is_among (map (λ (x : OneVolume). x.number) res) v ≡ true → volume_of p v ≡ Some w → find (has_number v.0) res ≡ Some w
found_in p [] v w own among at = cc
found_in p (x ∷ xs) v w own among at =
    let numbers = map (λ (y : OneVolume). y.number) xs in
    let Q : Bool → Type 0 = λ b. ((x.number.0 == v.0) ≡ b) → (b || is_among numbers v) ≡ true → cond b (Some x) (find (has_number v.0) xs) ≡ Some w in
    let yes : Q true = λ here any. sym (All-head (IsOwn p) x xs own) ∙ ap (λ (n : ℕ). find (has_number n) p.volumes) (eq_number x.number.0 v.0 here) ∙ at in
    let no : Q false = λ here any. found_in p xs v w (All-tail (IsOwn p) x xs own) any at in
    (elim (x.number.0 == v.0) as Q [ true ↦ yes | false ↦ no ]) refl among

-- of ascending volumes each is found by its number
pub own_at : (xs : List OneVolume) → IsAscending (λ (x : OneVolume). x.number.0) xs → (k : ℕ) (d : OneVolume) → k < length xs → find (has_number (get_or xs k d).number.0) xs ≡ Some (get_or xs k d)
own_at [] asc k d lt = absurd (omega arith)
own_at (x ∷ xs) asc zero d lt = ap (λ (b : Bool). cond b (Some x) (find (has_number x.number.0) xs)) (same_number x.number.0)
own_at (x ∷ xs) asc (suc k) d lt =
    let y = get_or xs k d in
    let less : x.number.0 < y.number.0 = asc 0 (suc k) d (omega arith) lt in
    let other : (x.number.0 == y.number.0) ≡ false = grind (arith, nat_tests) in
    ap (λ (b : Bool). cond b (Some x) (find (has_number y.number.0) xs)) other ∙ own_at xs (λ i j e before within. asc (suc i) (suc j) e (omega (arith, before)) (omega (arith, within))) k d (omega arith)

any_found : (test : OneVolume → Bool) (P : OneVolume → Type 0) (xs : List OneVolume) → All P xs → list_any test xs ≡ true → (x : OneVolume) × (test x ≡ true) × P x
any_found test P [] all any = cc
any_found test P (x ∷ xs) all any = elim (or_cases (test x) (list_any test xs) any) [
  | inl here ↦ (x, here, All-head P x xs all)
  | inr later ↦ any_found test P xs (All-tail P x xs all) later
]

more_among : (b : Bool) (u : VolId) (rest : List VolId) (v : VolId) → is_among rest v ≡ true → is_among (cond b (u ∷ rest) rest) v ≡ true
more_among true u rest v is = or_right (u.0 == v.0) (is_among rest v) is
more_among false u rest v is = is

kept_among : (keep : VolId → Bool) (xs : List OneVolume) (v : VolId) (w : OneVolume) → find (has_number v.0) xs ≡ Some w → keep w.number ≡ true → is_among (filter keep (map (λ (x : OneVolume). x.number) xs)) v ≡ true
kept_among keep [] v w found kept = cc
kept_among keep (x ∷ xs) v w found kept =
    let rest = filter keep (map (λ (y : OneVolume). y.number) xs) in
    let Q : Bool → Type 0 = λ b. ((x.number.0 == v.0) ≡ b) → cond b (Some x) (find (has_number v.0) xs) ≡ Some w → is_among (cond (keep x.number) (x.number ∷ rest) rest) v ≡ true in
    let yes : Q true =
    λ here is.
    let stays : keep x.number ≡ true = ap (λ (y : OneVolume). keep y.number) (same_volume x w is) ∙ kept in
    ap (λ (b : Bool). is_among (cond b (x.number ∷ rest) rest) v) stays ∙ or_left (x.number.0 == v.0) (is_among rest v) here
    in
    let no : Q false = λ here is. more_among (keep x.number) x.number rest v (kept_among keep xs v w is kept) in
    (elim (x.number.0 == v.0) as Q [ true ↦ yes | false ↦ no ]) refl found

same_id : (u v : VolId) → u.0 ≡ v.0 → u ≡ v
same_id u v is = ap (λ (n : ℕ). let id : VolId = record { 0 = n } in id) is

uppermost_among : (p : Plan) (v : VolId) (w : OneVolume) → volume_of p v ≡ Some w → has_parent p v ≡ false → is_among (uppermost p) v ≡ true
uppermost_among p v w at free =
    let id : w.number ≡ v = same_id w.number v (found_number v.0 p.volumes w at) in
    kept_among (λ (u : VolId). not (has_parent p u)) p.volumes v w at (ap (λ (u : VolId). not (has_parent p u)) id ∙ ap not free)

module _ (p : Plan) (layers : IsLayered p) (own : All (IsOwn p) p.volumes) (res : List OneVolume) (res_own : All (IsOwn p) res) where
  reached : All (HasBelow p (map (λ (x : OneVolume). x.number) res)) res → ((u : VolId) (w : OneVolume) → is_among (uppermost p) u ≡ true → volume_of p u ≡ Some w → is_among (map (λ (x : OneVolume). x.number) res) u ≡ true) →
      (k : ℕ) (v : VolId) (w : OneVolume) → volume_of p v ≡ Some w → layers.most ≤ layers.height v.0 + k → is_among (map (λ (x : OneVolume). x.number) res) v ≡ true
  reached closed named zero v w at high =
      let Q : Bool → Type 0 = λ b. (has_parent p v ≡ b) → is_among (map (λ (x : OneVolume). x.number) res) v ≡ true in
      let free : Q false = λ is. named v w (uppermost_among p v w at is) at in
      let below : Q true =
      λ is.
      let user = any_found (λ (x : OneVolume). names_volume v x.kind) (IsOwn p) p.volumes own is in
      let lower : layers.height v.0 < layers.height user.0.number.0 = layers.lower user.0 v user.2 user.1 in
      let top = layers.bounded user.0.number.0 in
      absurd (omega arith)
      in
      (elim (has_parent p v) as Q [ true ↦ below | false ↦ free ]) refl
  reached closed named (suc k) v w at high =
      let Q : Bool → Type 0 = λ b. (has_parent p v ≡ b) → is_among (map (λ (x : OneVolume). x.number) res) v ≡ true in
      let free : Q false = λ is. named v w (uppermost_among p v w at is) at in
      let below : Q true =
      λ is.
      let user = any_found (λ (x : OneVolume). names_volume v x.kind) (IsOwn p) p.volumes own is in
      let x = user.0 in
      let lower : layers.height v.0 < layers.height x.number.0 = layers.lower x v user.2 user.1 in
      let there = reached closed named k x.number x user.2 (omega arith) in
      let found = found_in p res x.number x res_own there user.2 in
      found_holds (HasBelow p (map (λ (y : OneVolume). y.number) res)) (has_number x.number.0) res x closed found v w (sym (kind_among v x.kind) ∙ user.1) at
      in
      (elim (has_parent p v) as Q [ true ↦ below | false ↦ free ]) refl

neither : (a b : Bool) → (a || b) ≡ false → (a ≡ false) × (b ≡ false)
neither true b is = cc
neither false b is = (refl, is)

abbrev IsFresh : List VolId → OneVolume → Type 0
IsFresh told x = is_among told x.number ≡ false

abbrev Differ : OneVolume → OneVolume → Type 0
Differ x y = x.number.0 ≢ y.number.0

differ : (m n : ℕ) → (m == n) ≡ false → m ≢ n
differ m n is = λ e. let same : (m == n) ≡ true = ap (λ (k : ℕ). m == k) (sym e) ∙ same_number m in cc

record AreFresh (told : List VolId) (xs : List OneVolume) : Type 0 where
  fresh : All (IsFresh told) xs
  once : AllPairs Differ xs

none_fresh : (told : List VolId) → AreFresh told []
none_fresh told = record { fresh = All-nil (IsFresh told); once = λ i j d before within. absurd (omega arith) }

fresh_step : (told : List VolId) (w : OneVolume) (xs : List OneVolume) → IsFresh told w → AreFresh (told ++ w.number ∷ []) xs → AreFresh told (w ∷ xs)
fresh_step told w xs new far =
    let split : (x : OneVolume) → IsFresh (told ++ w.number ∷ []) x → (is_among told x.number ≡ false) × ((w.number.0 == x.number.0) ≡ false) = λ x is. neither (is_among told x.number) (w.number.0 == x.number.0) (sym (any_more volume_key told w.number x.number.0) ∙ is) in
    record {
      fresh = All-cons (IsFresh told) w xs new (All-weaker (IsFresh (told ++ w.number ∷ [])) (IsFresh told) (λ x is. (split x is).0) xs far.fresh);
      once = AllPairs-cons Differ w xs (All-weaker (IsFresh (told ++ w.number ∷ [])) (Differ w) (λ x is. differ w.number.0 x.number.0 (split x is).1) xs far.fresh) far.once;
    }

walk_fresh : (p : Plan) (n : ℕ) (told vs : List VolId) → AreFresh told (walk n p told vs)
walk_fresh p zero told vs = none_fresh told
walk_fresh p (suc n) told vs =
    let next : OneVolume → List VolId → List OneVolume = λ w later. walk n p (told ++ w.number ∷ []) (kind_below w.kind ++ later) in
    let Q : Option (OneVolume × List VolId) → Type 0 = λ o. (next_of p told vs ≡ o) → AreFresh told (go_on o next) in
    let none : Q None = λ here. none_fresh told in
    let some : (x : OneVolume × List VolId) → Q (Some x) = λ x here. fresh_step told x.0 (next x.0 x.1) (step_is p told vs x.1 x.0 here).fresh (walk_fresh p n (told ++ x.0.number ∷ []) (kind_below x.0.kind ++ x.1)) in
    (elim (next_of p told vs) as Q [ None ↦ none | Some x ↦ some x ]) refl

pub all_told : (p : Plan) → IsLayered p → AreAllVolumes p (with_below p (uppermost p))
all_told p layers =
    let res = with_below p (uppermost p) in
    let own : All (IsOwn p) p.volumes = own_at p.volumes layers.ascending in
    let res_own : All (IsOwn p) res = walk_holds (IsOwn p) p (length p.volumes) [] (uppermost p) own in
    let whole = complete p (length p.volumes) [] (uppermost p) (rem_most [] p.volumes) in
    record {
      of_plan = res_own;
      once = (walk_fresh p (length p.volumes) [] (uppermost p)).once;
      each = λ v w at. found_in p res v w res_own (reached p layers own res res_own whole.closed whole.named layers.most v w at (omega arith)) at;
    }
