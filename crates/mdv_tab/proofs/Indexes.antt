-- Names that have numbers.
use Rattle.std.proofs.Common.{◌≡◌, ◌<◌, ◌≤◌, ◌+◌, ◌++◌, ◌⊎◌, ℕ, Bool, true, false, cond, Option, None, Some, List, length, take, drop, get_or, replicate, refl, sym, ◌∙◌, ap, subst, inl, inr, arith}
use Rattle.std.specs.Prelude.{Contains, IsSome, option_map}
use Rattle.std.specs.declared.cmp.Ordering.{Ordering}
use Rattle.std.specs.declared.cmp.Ordering.TheVariants.{Less, Equal, Greater}
use Rattle.std.specs.Ordering.{bool_cmp, ordering_then}
use Rattle.std.specs.Option.{option_cmp}
use Rattle.std.specs.BTreeMap.{is_at}
use Rattle.std.proofs.lemmas.Map.Lookups.{CmpEqualImpliesEq, exact_unsigned, exact_bytes}
use Rattle.std.proofs.lemmas.Map.Views.{tells_apart}
use Rattle.std.proofs.Math.Seq.{take-append_seam}
use Rattle.std.proofs.lemmas.List.{take_more, length-take-le}
use Rattle.std.proofs.lemmas.List.Elements.{Contains-push_cases}
use Rattle.mdv_base.specs.declared.name.Named.{Named}
use Rattle.mdv_tab.specs.declared.entry.Entry.{Entry}
use Rattle.mdv_tab.specs.declared.index.Index.{Index}
use Rattle.mdv_tab.specs.declared.key.Key.{Key}
use Rattle.mdv_tab.specs.declared.key.SetKey.{SetKey}
use Rattle.mdv_tab.specs.contracts.key.SetKeyOrd.TheImpl as set_order
use Rattle.mdv_tab.specs.Index.{key_cmp, key_of, set_key, number_at, index_len, IsNumbering, AddsKey, HasMade, IsIndexOf}

then_equal : (r s : Ordering) → ordering_then r s ≡ Equal → (r ≡ Equal) × (s ≡ Equal)
then_equal Less s e = cc
then_equal Equal s e = (refl, e)
then_equal Greater s e = cc

exact_bool : CmpEqualImpliesEq bool_cmp
exact_bool false false e = refl
exact_bool false true e = cc
exact_bool true false e = cc
exact_bool true true e = refl

exact_option : {X : Type 0} (R : X → X → Ordering) → CmpEqualImpliesEq R → CmpEqualImpliesEq (option_cmp R)
exact_option R exact None None e = refl
exact_option R exact None (Some y) e = cc
exact_option R exact (Some x) None e = cc
exact_option R exact (Some x) (Some y) e = ap Some (exact x y e)

exact_set : CmpEqualImpliesEq (set_order.ghosts).cmp
exact_set s t e =
    let parts = then_equal _ _ e in
    λ i. record { bytes = exact_bytes s.bytes t.bytes parts.0 i; len = exact_unsigned s.len t.len parts.1 i }

-- keys that compare equal are the same
pub exact_key : CmpEqualImpliesEq key_cmp
exact_key k l e =
    let one = then_equal _ _ e in
    let two = then_equal _ _ one.1 in
    λ i. record { number = exact_unsigned k.number l.number one.0 i; pool = exact_bool k.pool l.pool two.0 i; set = exact_option _ exact_set k.set l.set two.1 i }

same_text : (s t : List ℕ) → set_key s ≡ set_key t → s ≡ t
same_text s t e =
    let back : take (length s) (s ++ drop (length s) (replicate 32 0)) ≡ take (length t) (t ++ drop (length t) (replicate 32 0)) = ap (λ (k : SetKey). take k.len k.bytes) e in
    sym (take-append_seam s (drop (length s) (replicate 32 0))) ∙ back ∙ take-append_seam t (drop (length t) (replicate 32 0))

same_set : (s t : Option (List ℕ)) → option_map set_key s ≡ option_map set_key t → s ≡ t
same_set None None e = refl
same_set None (Some t) e = cc
same_set (Some s) None e = cc
same_set (Some s) (Some t) e = ap Some (same_text s t (cc))

-- a key is of one name
pub same_name : (s t : Option (List ℕ)) (a b : Named) → key_of s a ≡ key_of t b → (s ≡ t) × (a ≡ b)
same_name s t (Named.Volume v) (Named.Volume w) e = (same_set s t (ap (λ (k : Key). k.set) e), ap Named.Volume (λ i. record { 0 = ap (λ (k : Key). k.number) e i }))
same_name s t (Named.Pool p) (Named.Pool q) e = (same_set s t (ap (λ (k : Key). k.set) e), ap Named.Pool (λ i. record { 0 = ap (λ (k : Key). k.number) e i }))
same_name s t (Named.Volume v) (Named.Pool q) e = let no : false ≡ true = ap (λ (k : Key). k.pool) e in cc
same_name s t (Named.Pool p) (Named.Volume w) e = let no : true ≡ false = ap (λ (k : Key). k.pool) e in cc

-- a key that has no number gets the next one
at_key : (b : Bool) (n m : ℕ) (was : Option ℕ) → cond b (Some n) was ≡ Some m → ((b ≡ true) × (n ≡ m)) ⊎ (was ≡ Some m)
at_key true n m was e = inl (refl, cc)
at_key false n m was e = inr e

still_some : (b : Bool) (n : ℕ) (was : Option ℕ) → IsSome was → IsSome (cond b (Some n) was)
still_some true n was some = refl
still_some false n was some = some

module _ (old new : Index) (key : Key) (n : ℕ) (sound : IsNumbering old) (next : n ≡ index_len old) (longer : index_len new ≡ index_len old + 1) (has : number_at new key ≡ Some n)
    (updates : (other : Key) → number_at new other ≡ cond (is_at (key_cmp key) other) (Some n) (number_at old other)) where
  key_cases : (other : Key) (m : ℕ) → number_at new other ≡ Some m → ((key ≡ other) × (n ≡ m)) ⊎ (number_at old other ≡ Some m)
  key_cases other m is = elim (at_key (is_at (key_cmp key) other) n m (number_at old other) (sym (updates other) ∙ is)) [
    | inl here ↦ inl (tells_apart exact_key key other here.0, here.1)
    | inr before ↦ inr before
  ]

  key_within : (other : Key) (m : ℕ) → number_at new other ≡ Some m → m < index_len new
  key_within other m is = elim (key_cases other m is) [ inl here ↦ omega (arith, here.1) | inr before ↦ let lt = sound.within other m before in omega (arith, lt) ]

  key_apart : (one two : Key) (m : ℕ) → number_at new one ≡ Some m → number_at new two ≡ Some m → one ≡ two
  key_apart one two m first second = elim (key_cases one m first) [
    | inl here ↦ elim (key_cases two m second) [
      | inl too ↦ sym here.0 ∙ too.0
      | inr before ↦ let lt = sound.within two m before in absurd (omega (arith, lt, here.1))
    ]
    | inr before ↦ elim (key_cases two m second) [
      | inl here ↦ let lt = sound.within one m before in absurd (omega (arith, lt, here.1))
      | inr too ↦ sound.apart one two m before too
    ]
  ]

  pub adds_key : AddsKey old new key
  adds_key = record {
    sound = record { within = key_within; apart = key_apart };
    has = let F : Option ℕ → Type 0 = λ o. IsSome o in subst F (sym has) refl;
    keeps = λ other some. let F : Option ℕ → Type 0 = λ o. IsSome o in subst F (sym (updates other)) (still_some _ n _ some);
    one = omega arith;
  }

-- one entry more has its number
pub index_more : (es : List Entry) (k : ℕ) (e : Entry) (old new : Index) → k < length es → e ≡ get_or es k e → IsIndexOf (take k es) old → IsNumbering new → index_len new ≤ index_len old + 1 → ((other : Key) → IsSome (number_at old other) → IsSome (number_at new other)) → HasMade new e → IsIndexOf (take (k + 1) es) new
index_more es k e old new within is so_far sound one keeps has = record {
  sound = sound;
  few =
      let short = length-take-le k es (omega arith) in
      let long = length-take-le (k + 1) es (omega arith) in
      let few = so_far.few in
      omega (arith, short, long, few, one);
  made = λ f among named makes.
      let F : List Entry → Type 0 = λ l. Contains l f in
      elim (Contains-push_cases (take k es) (get_or es k e) f (subst F (take_more es k e within) among)) [
        | inl before ↦ keeps _ (so_far.made f before named makes)
        | inr here ↦ let G : Entry → Type 0 = λ x. HasMade new x in subst G (is ∙ here) has named makes
      ];
}
