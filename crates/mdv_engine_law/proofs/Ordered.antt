-- Causes that are listed in the one order: the first of them that holds is the one that is told.
use Rattle.std.proofs.Common.{◌≡◌, ℕ, Bool, true, false, if◌then◌else◌, List, [], ◌∷◌, ◌++◌, Option, Some, None, refl, ◌∙◌, ap}
use Rattle.std.specs.List.{find}
use Rattle.std.specs.Option.{option_or}
use Rattle.mdv_base.specs.Order.{first_by, first_refusal, has_number, order, where_so}
use Rattle.mdv_engine_law.specs.Below.{Refusal}

-- a refusal, and whether its cause holds
pub record Held : Type 0 where
  pub holds : Bool
  pub refusal : Refusal

abbrev pub holding : List Held → List Refusal
holding [] = []
holding (c ∷ cs) = where_so c.holds c.refusal ++ holding cs

abbrev pub first_told : List Held → Option Refusal
first_told [] = None
first_told (c ∷ cs) = if c.holds then Some c.refusal else first_told cs

abbrev pub has_one : ℕ → List Held → Bool
has_one n [] = false
has_one n (c ∷ cs) = if has_number n c.refusal then true else has_one n cs

-- their numbers stand in this order, each once
abbrev pub in_order : List ℕ → List Held → Bool
in_order ns [] = true
in_order [] (c ∷ cs) = false
in_order (n ∷ ns) (c ∷ cs) = if has_one n cs then false else if has_number n c.refusal then in_order ns cs else in_order ns (c ∷ cs)

none_has : (n : ℕ) (cs : List Held) → has_one n cs ≡ false → find (has_number n) (holding cs) ≡ None
none_has n [] none = refl
none_has n (c ∷ cs) none = by c.holds (has_number n c.refusal) none (none_has n cs) refl where
  by : (holds own : Bool) → (if own then true else has_one n cs) ≡ false → (has_one n cs ≡ false → find (has_number n) (holding cs) ≡ None) → has_number n c.refusal ≡ own → find (has_number n) (where_so holds c.refusal ++ holding cs) ≡ None
  by holds true none rest is = absurd (cc (none))
  by false false none rest is = rest none
  by true false none rest is = ap (λ (b : Bool). if b then Some c.refusal else find (has_number n) (holding cs)) is ∙ rest none

or_none : (n : ℕ) (ns : List ℕ) (held : List Refusal) → find (has_number n) held ≡ None → first_by (n ∷ ns) held ≡ first_by ns held
or_none n ns held none = ap (λ (o : Option Refusal). option_or o (first_by ns held)) none

first_empty : (ns : List ℕ) → first_by ns [] ≡ None
first_empty [] = refl
first_empty (n ∷ ns) = first_empty ns

first_in : (ns : List ℕ) (cs : List Held) → in_order ns cs ≡ true → first_by ns (holding cs) ≡ first_told cs
first_in ns [] is = first_empty ns
first_in [] (c ∷ cs) is = absurd (cc (is))
first_in (n ∷ ns) (c ∷ cs) is = by (has_one n cs) (has_number n c.refusal) c.holds refl refl is (first_in ns cs) (first_in ns (c ∷ cs)) where
  by : (later own holds : Bool) → has_one n cs ≡ later → has_number n c.refusal ≡ own → (if later then false else if own then in_order ns cs else in_order ns (c ∷ cs)) ≡ true
      → (in_order ns cs ≡ true → first_by ns (holding cs) ≡ first_told cs) → (in_order ns (c ∷ cs) ≡ true → first_by ns (where_so c.holds c.refusal ++ holding cs) ≡ (if c.holds then Some c.refusal else first_told cs))
      → first_by (n ∷ ns) (where_so c.holds c.refusal ++ holding cs) ≡ (if c.holds then Some c.refusal else first_told cs)
  by true own holds later_is own_is is behind again = absurd (cc (is))
  by false true holds later_is own_is is behind again = with c.holds where
    with : (h : Bool) → first_by (n ∷ ns) (where_so h c.refusal ++ holding cs) ≡ (if h then Some c.refusal else first_told cs)
    with true = ap (λ (b : Bool). option_or (if b then Some c.refusal else find (has_number n) (holding cs)) (first_by ns (c.refusal ∷ holding cs))) own_is
    with false = or_none n ns (holding cs) (none_has n cs later_is) ∙ behind is
  by false false holds later_is own_is is behind again =
      or_none n ns (where_so c.holds c.refusal ++ holding cs) (none_has n (c ∷ cs) (ap (λ (b : Bool). if b then true else has_one n cs) own_is ∙ later_is)) ∙ again is

pub first_is_told : (cs : List Held) → in_order order cs ≡ true → first_refusal (holding cs) ≡ first_told cs
first_is_told cs is = first_in order cs is
