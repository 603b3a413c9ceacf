-- What holds of each refusal whose cause holds is so of the first of them.
use Rattle.std.proofs.Common.{◌≡◌, ℕ, Bool, true, false, List, [], ◌∷◌, ◌++◌, Option, Some, None, IfSome, All, Contains, if◌then◌else◌, refl, sym, ◌∙◌, ap, subst}
use Rattle.std.proofs.lemmas.List.Elements.{All-cons, All-contains, All-head, All-nil, All-tail}
use Rattle.std.proofs.lemmas.List.{append-nil}
use Rattle.std.specs.List.{find}
use Rattle.std.specs.Option.{option_or}
use Rattle.mdv_base.specs.Order.{first_by, first_refusal, has_number, order, where_so}
use Rattle.mdv_base.specs.declared.refusal.Refusal.{Refusal}
use Rattle.mdv_base.specs.declared.refusal.Refusal.TheVariants.{ReplicaFull}

module _ (P : Refusal → Type 0) where
  here_or : (is : Bool) (r : Refusal) (rest : Option Refusal) → P r → IfSome rest P → IfSome (if is then Some r else rest) P
  here_or true r rest here behind = here
  here_or false r rest here behind = behind

  find_holds : (n : ℕ) (held : List Refusal) → All P held → IfSome (find (has_number n) held) P
  find_holds n [] all = tt
  find_holds n (r ∷ held) all = here_or (has_number n r) r (find (has_number n) held) (All-head P r held all) (find_holds n held (All-tail P r held all))

  one_or : (first rest : Option Refusal) → IfSome first P → IfSome rest P → IfSome (option_or first rest) P
  one_or None rest one other = other
  one_or (Some r) rest one other = one

  first_if : (ns : List ℕ) (held : List Refusal) → All P held → IfSome (first_by ns held) P
  first_if [] held all = tt
  first_if (n ∷ ns) held all = one_or (find (has_number n) held) (first_by ns held) (find_holds n held all) (first_if ns held all)

  pub first_holds : (ns : List ℕ) (held : List Refusal) (r : Refusal) → All P held → first_by ns held ≡ Some r → P r
  first_holds ns held r all is = subst (λ (o : Option Refusal). IfSome o P) is (first_if ns held all)

-- one more at the end, whose number stands last in the order, is told where none before it is
module _ (last : Refusal) where
  find_behind : (n : ℕ) (held : List Refusal) → find (has_number n) (held ++ last ∷ []) ≡ option_or (find (has_number n) held) (find (has_number n) (last ∷ []))
  find_behind n [] = refl
  find_behind n (r ∷ held) = by (has_number n r) (find_behind n held) where
    by : (is : Bool) → find (has_number n) (held ++ last ∷ []) ≡ option_or (find (has_number n) held) (find (has_number n) (last ∷ [])) → (if is then Some r else find (has_number n) (held ++ last ∷ [])) ≡ option_or (if is then Some r else find (has_number n) held) (find (has_number n) (last ∷ []))
    by true behind = refl
    by false behind = behind

  apart : (a b c : Option Refusal) → option_or (option_or a b) c ≡ option_or a (option_or b c)
  apart None b c = refl
  apart (Some r) b c = refl

  or_none : (a : Option Refusal) → option_or a None ≡ a
  or_none None = refl
  or_none (Some r) = refl

  -- the numbers that aren't its own find nothing there
  abbrev IsOther : ℕ → Type 0
  IsOther n = find (has_number n) (last ∷ []) ≡ None

  abbrev AreOthers : List ℕ → Type 0
  AreOthers [] = Unit {0}
  AreOthers (n ∷ ns) = IsOther n × AreOthers ns

  behind_all : (ns : List ℕ) (k : ℕ) → AreOthers ns → find (has_number k) (last ∷ []) ≡ Some last → (held : List Refusal) → first_by (ns ++ k ∷ []) (held ++ last ∷ []) ≡ option_or (first_by (ns ++ k ∷ []) held) (Some last)
  behind_all [] k others own held =
      or_none (find (has_number k) (held ++ last ∷ [])) ∙ find_behind k held ∙ ap (option_or (find (has_number k) held)) own ∙ ap (λ (o : Option Refusal). option_or o (Some last)) (sym (or_none (find (has_number k) held)))
  behind_all (n ∷ ns) k others own held =
      let here : find (has_number n) (held ++ last ∷ []) ≡ find (has_number n) held = find_behind n held ∙ ap (option_or (find (has_number n) held)) others.0 ∙ or_none (find (has_number n) held) in
      (λ i. option_or (here i) (behind_all ns k others.1 own held i)) ∙ sym (apart (find (has_number n) held) (first_by (ns ++ k ∷ []) held) (Some last))

-- a record that doesn't fit is told last
abbrev before_full : List ℕ
before_full = 29 ∷ 1 ∷ 2 ∷ 20 ∷ 28 ∷ 21 ∷ 18 ∷ 19 ∷ 4 ∷ 26 ∷ 6 ∷ 5 ∷ 12 ∷ 13 ∷ 14 ∷ 8 ∷ 9 ∷ 3 ∷ 25 ∷ 7 ∷ 11 ∷ 16 ∷ 27 ∷ 10 ∷ 15 ∷ 22 ∷ []

pub full_is_last : (held : List Refusal) (bytes room : ℕ) → first_refusal (held ++ ReplicaFull bytes room ∷ []) ≡ option_or (first_refusal held) (Some (ReplicaFull bytes room))
full_is_last held bytes room =
    behind_all (ReplicaFull bytes room) before_full 17
    (refl, (refl, (refl, (refl, (refl, (refl, (refl, (refl, (refl, (refl, (refl, (refl, (refl, (refl, (refl, (refl, (refl, (refl, (refl, (refl, (refl, (refl, (refl, (refl, (refl, (refl, tt)))))))))))))))))))))))))) refl held

-- where none is told, no cause holds of a refusal whose number stands in the order
or_nones : (a b : Option Refusal) → option_or a b ≡ None → (a ≡ None) × (b ≡ None)
or_nones None b is = (refl, is)
or_nones (Some r) b is = absurd (cc (is))

nones_by : (ns : List ℕ) (held : List Refusal) → first_by ns held ≡ None → All (λ n. find (has_number n) held ≡ None) ns
nones_by [] held is = All-nil (λ n. find (has_number n) held ≡ None)
nones_by (n ∷ ns) held is =
    let both = or_nones (find (has_number n) held) (first_by ns held) is in
    All-cons (λ (n : ℕ). find (has_number n) held ≡ None) n ns both.0 (nones_by ns held both.1)

pub none_found : (held : List Refusal) → first_refusal held ≡ None → (n : ℕ) → Contains order n → find (has_number n) held ≡ None
none_found held is n has = All-contains (λ (n : ℕ). find (has_number n) held ≡ None) order n (nones_by order held is) has

-- it doesn't hold of those behind others
pub none_behind : (n : ℕ) (first rest : List Refusal) → find (has_number n) (first ++ rest) ≡ None → find (has_number n) rest ≡ None
none_behind n [] rest is = is
none_behind n (r ∷ first) rest is = by (has_number n r) is (none_behind n first rest) where
  by : (here : Bool) → (if here then Some r else find (has_number n) (first ++ rest)) ≡ None → (find (has_number n) (first ++ rest) ≡ None → find (has_number n) rest ≡ None) → find (has_number n) rest ≡ None
  by true is behind = absurd (cc (is))
  by false is behind = behind is

-- nor of the first
pub none_here : (n : ℕ) (holds : Bool) (r : Refusal) (rest : List Refusal) → has_number n r ≡ true → find (has_number n) (where_so holds r ++ rest) ≡ None → holds ≡ false
none_here n false r rest own is = refl
none_here n true r rest own is = by (has_number n r) own is where
  by : (here : Bool) → here ≡ true → (if here then Some r else find (has_number n) rest) ≡ None → true ≡ false
  by true own is = absurd (cc (is))
  by false own is = absurd (cc (own))

pub none_last : (n : ℕ) (holds : Bool) (r : Refusal) → has_number n r ≡ true → find (has_number n) (where_so holds r) ≡ None → holds ≡ false
none_last n holds r own is = none_here n holds r [] own (subst (λ (l : List Refusal). find (has_number n) l ≡ None) (sym (append-nil (where_so holds r))) is)
