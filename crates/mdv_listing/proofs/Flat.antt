-- Where no volume lies on another one, the print has each in ascending order, and a name is printed as its one volume.
use Rattle.std.proofs.Common.{◌≡◌, ◌<◌, ◌==◌, ◌||◌, ℕ, zero, suc, Bool, true, false, cond, not, Option, None, Some, refl, sym, ◌∙◌, ap, List, [], ◌∷◌, ◌++◌, length, map, arith}
use Rattle.std.proofs.lemmas.Bool.Decides.{nat_tests}
use Rattle.std.proofs.lemmas.List.Elements.{All-cons, All-head, All-nil, All-tail}
use Rattle.std.specs.List.{All, AllPairs, filter, find, flat_map}
use Rattle.mdv_base.specs.declared.name.VolId.{VolId}
use Rattle.mdv_keys.proofs.Marking.{any_more}
use Rattle.mdv_keys.proofs.Users.{volumes_among}
use Rattle.mdv_keys.specs.Marks.{below_it, volume_key}
use Rattle.mdv_plan.proofs.Pairs.{AllPairs-first, AllPairs-rest}
use Rattle.mdv_plan.specs.Named.{kind_below}
use Rattle.mdv_plan.specs.Parents.{has_parent}
use Rattle.mdv_plan.specs.declared.plan.Plan.{Plan}
use Rattle.mdv_plan.specs.declared.volume.Volume.{Volume}
use Rattle.mdv_print.proofs.Complete.{IsOwn, own_at}
use Rattle.mdv_print.proofs.Walking.{found_holds}
use Rattle.mdv_print.specs.Order.{first_or, go_on, is_among, next_of, uppermost, volume_of, walk, with_below}

-- it lies on no volume
abbrev pub IsAlone : Volume → Type 0
IsAlone w = below_it w ≡ []

abbrev pub IsBelow : Volume → Volume → Type 0
IsBelow x y = x.number.0 < y.number.0

abbrev IsFresh : List VolId → Volume → Type 0
IsFresh told w = is_among told w.number ≡ false

abbrev numbers : List Volume → List VolId
numbers ws = map (λ (w : Volume). w.number) ws

differ : (m n : ℕ) → m < n → (m == n) ≡ false
differ m n less = grind (arith, nat_tests)

neither : (a b : Bool) → a ≡ false → b ≡ false → (a || b) ≡ false
neither true b one other = cc
neither false b one other = other

fresh_more : (told : List VolId) (w x : Volume) → IsFresh told x → IsBelow w x → IsFresh (told ++ w.number ∷ []) x
fresh_more told w x fresh less = any_more volume_key told w.number x.number.0 ∙ neither (is_among told x.number) (w.number.0 == x.number.0) fresh (differ w.number.0 x.number.0 less)

all_fresh : (told : List VolId) (w : Volume) (xs : List Volume) → All (IsFresh told) xs → All (IsBelow w) xs → All (IsFresh (told ++ w.number ∷ [])) xs
all_fresh told w [] fresh less = All-nil (IsFresh (told ++ w.number ∷ []))
all_fresh told w (x ∷ xs) fresh less =
    All-cons (IsFresh (told ++ w.number ∷ [])) x xs (fresh_more told w x (All-head (IsFresh told) x xs fresh) (All-head (IsBelow w) x xs less))
    (all_fresh told w xs (All-tail (IsFresh told) x xs fresh) (All-tail (IsBelow w) x xs less))

-- the walk takes those that are left one after another
walk_is : (p : Plan) (told : List VolId) (ws : List Volume) → All (IsFresh told) ws → All (IsOwn p) ws → All IsAlone ws → AllPairs IsBelow ws → walk (length ws) p told (numbers ws) ≡ ws
walk_is p told [] fresh own alone up = refl
walk_is p told (w ∷ ws) fresh own alone up =
    let untold : cond (is_among told w.number) None (volume_of p w.number) ≡ Some w = ap (λ (b : Bool). cond b None (volume_of p w.number)) (All-head (IsFresh told) w ws fresh) ∙ All-head (IsOwn p) w ws own in
    let next : next_of p told (numbers (w ∷ ws)) ≡ Some (w, numbers ws) = ap (λ (o : Option Volume). first_or o (numbers ws) (next_of p told (numbers ws))) untold in
    let more : List VolId = told ++ w.number ∷ [] in
    ap (λ (o : Option (Volume × List VolId)). go_on o (λ (x : Volume) (later : List VolId). walk (length ws) p (told ++ x.number ∷ []) (kind_below x.kind ++ later))) next
    ∙ ap (λ (below : List VolId). w ∷ walk (length ws) p more (below ++ numbers ws)) (All-head IsAlone w ws alone)
    ∙ ap (λ (xs : List Volume). w ∷ xs)
    (walk_is p more ws (all_fresh told w ws (All-tail (IsFresh told) w ws fresh) (AllPairs-first IsBelow w ws up)) (All-tail (IsOwn p) w ws own) (All-tail IsAlone w ws alone) (AllPairs-rest IsBelow w ws up))

pub flat_none : {X Y : Type 0} (f : X → List Y) (xs : List X) → All (λ x. f x ≡ []) xs → flat_map f xs ≡ []
flat_none f [] none = refl
flat_none f (x ∷ xs) none = ap (λ l. l ++ flat_map f xs) (All-head (λ x. f x ≡ []) x xs none) ∙ flat_none f xs (All-tail (λ x. f x ≡ []) x xs none)

no_parent : (p : Plan) (v : VolId) → All IsAlone p.volumes → has_parent p v ≡ false
no_parent p v alone = volumes_among v p.volumes ∙ ap (λ (l : List VolId). is_among l v) (flat_none below_it p.volumes alone)

filter_all : (f : VolId → Bool) (vs : List VolId) → ((v : VolId) → f v ≡ true) → filter f vs ≡ vs
filter_all f [] each = refl
filter_all f (v ∷ vs) each = ap (λ (b : Bool). cond b (v ∷ filter f vs) (filter f vs)) (each v) ∙ ap (λ (xs : List VolId). v ∷ xs) (filter_all f vs each)

pub all_in_order : (p : Plan) → AllPairs IsBelow p.volumes → All IsAlone p.volumes → with_below p (uppermost p) ≡ p.volumes
all_in_order p up alone =
    ap (λ (vs : List VolId). walk (length p.volumes) p [] vs) (filter_all (λ (v : VolId). not (has_parent p v)) (numbers p.volumes) (λ v. ap not (no_parent p v alone)))
    ∙ walk_is p [] p.volumes (λ k d within. refl) (own_at p.volumes up) alone up

abbrev pub found_list : Option Volume → List Volume
found_list None = []
found_list (Some w) = w ∷ []

nothing_left : (n : ℕ) (p : Plan) (told : List VolId) → walk n p told [] ≡ []
nothing_left zero p told = refl
nothing_left (suc n) p told = refl

-- the one step of a walk from one volume
found_or : (n : ℕ) (p : Plan) (o : Option Volume) → ((w : Volume) → o ≡ Some w → IsAlone w) → go_on (first_or o [] None) (λ (x : Volume) (later : List VolId). walk n p ([] ++ x.number ∷ []) (kind_below x.kind ++ later)) ≡ found_list o
found_or n p None alone = refl
found_or n p (Some w) alone = ap (λ (below : List VolId). w ∷ walk n p (w.number ∷ []) (below ++ [])) (alone w refl) ∙ ap (λ (xs : List Volume). w ∷ xs) (nothing_left n p (w.number ∷ []))

one_walked : (p : Plan) (v : VolId) (ws : List Volume) → p.volumes ≡ ws → ((w : Volume) → volume_of p v ≡ Some w → IsAlone w) → walk (length ws) p [] (v ∷ []) ≡ found_list (volume_of p v)
one_walked p v [] is alone = ap (λ (ws : List Volume). found_list (find (λ (w : Volume). w.number.0 == v.0) ws)) (sym is)
one_walked p v (w ∷ ws) is alone = found_or (length ws) p (volume_of p v) alone

pub one_alone : (p : Plan) (v : VolId) → All IsAlone p.volumes → with_below p (v ∷ []) ≡ found_list (volume_of p v)
one_alone p v alone = one_walked p v p.volumes refl (λ w is. found_holds IsAlone (λ (x : Volume). x.number.0 == v.0) p.volumes w alone is)
