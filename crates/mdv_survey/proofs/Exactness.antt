-- The blocks tell one number of calls for a slice.
use Rattle.std.proofs.Common.{◌≡◌, ◌⊎◌, inl, inr, ℕ, zero, suc, ◌+◌, ◌*◌, ◌<◌, ◌≤◌, Bool, true, false, List, [], ◌∷◌, refl, sym, ◌∙◌, ap, subst, arith}
use Rattle.std.specs.Bool.{MatchBool}
use Rattle.std.proofs.lemmas.Bool.{cases_eq, cases_lt}
use Rattle.std.proofs.lemmas.List.Elements.{Contains-append_left, Contains-append_right, Contains-push}
use Rattle.mdv_shown.proofs.Elsewhere.{one_master}
use Rattle.mdv_survey.specs.Below.{Closed, Drives, First, Gate, Geometry, Head, IsHead, IsInChain, IsSpareSlot, IsTextOf, Master, Open, PlaceAt, Second, Site, SliceLine, Slot, gate_of, has_drive, other_slot, place_on, size_on}
use Rattle.mdv_survey.specs.Counts.{AreLinesBy, EndsBy, HasNoPlace, IsLineBy, IsSliceBy, IsSlotBy, IsTextBy, IsUnfitBy, IsUnreadableBy, IsWalkedBy, ReadableBy, open_slots, reads_of}
use Rattle.mdv_survey.specs.Laws.{AreAnswered, CountsAreOne}
use Rattle.mdv_survey.specs.Others.{first_at, most_on}
use Rattle.mdv_survey.specs.Replica.{Contents}
use Rattle.mdv_survey.specs.Slots.{Fits}
use Rattle.mdv_survey.proofs.Chains.{head_first}
use Rattle.mdv_survey.proofs.Efforts.{one_there}

never_both : (a b : ℕ) → a ≤ b → b < a → ⊥
never_both a b most less = omega (arith, most, less)

text_one : (blocks bytes n m : ℕ) → IsTextBy blocks bytes n → IsTextBy blocks bytes m → n ≡ m
text_one blocks bytes n m (inl (fits, one)) (inl (also, other)) = one ∙ sym other
text_one blocks bytes n m (inl (fits, one)) (inr (long, other)) = absurd (never_both _ _ fits long)
text_one blocks bytes n m (inr (long, one)) (inl (fits, other)) = absurd (never_both _ _ fits long)
text_one blocks bytes n m (inr (long, one)) (inr (also, other)) = one ∙ sym other

slot_one : (blocks : ℕ) (gate : Gate) (n m : ℕ) → IsSlotBy blocks gate n → IsSlotBy blocks gate m → n ≡ m
slot_one blocks Closed n m one other = one ∙ sym other
slot_one blocks (Open mark bytes) n m one other = text_one blocks bytes n m one other

-- the slots of a replica that don't both fit
module _ (g : Geometry) (at : PlaceAt) (head : Head) (content : ℕ → List ℕ) where
  -- the slot that is read first is one
  spare_one : (a b : Slot) → IsSpareSlot head a → (a ≡ Second → IsSpareSlot head First → ⊥) → IsSpareSlot head b → (b ≡ Second → IsSpareSlot head First → ⊥) → a ≡ b
  spare_one First First spare tie also its = refl
  spare_one First Second spare tie also its = absurd (its refl spare)
  spare_one Second First spare tie also its = absurd (tie refl also)
  spare_one Second Second spare tie also its = refl

  abbrev SlotsBy : Slot → ℕ → Type 0
  SlotsBy slot n =
      ((Fits g at slot (gate_of head slot) content → ⊥) × IsSlotBy at.place.blocks (gate_of head slot) n)
      ⊎ (Fits g at slot (gate_of head slot) content × ((k : ℕ) × IsSlotBy at.place.blocks (gate_of head (other_slot slot)) k × (n ≡ reads_of (gate_of head slot) + k)))

  slots_one : (slot : Slot) (n m : ℕ) → SlotsBy slot n → SlotsBy slot m → n ≡ m
  slots_one slot n m (inl (never, one)) (inl (none, other)) = slot_one at.place.blocks (gate_of head slot) n m one other
  slots_one slot n m (inl (never, one)) (inr (fits, (k, other, all))) = absurd (never fits)
  slots_one slot n m (inr (fits, (k, one, all))) (inl (never, other)) = absurd (never fits)
  slots_one slot n m (inr (fits, (k, one, all))) (inr (also, (j, other, its))) =
      all ∙ ap (λ (x : ℕ). reads_of (gate_of head slot) + x) (slot_one at.place.blocks (gate_of head (other_slot slot)) k j one other) ∙ sym its

  unfit_one : (n m : ℕ) → IsUnfitBy g at head content n → IsUnfitBy g at head content m → n ≡ m
  unfit_one n m one other =
      slots_one other.slot n m (subst (λ (s : Slot). SlotsBy s n) (spare_one one.slot other.slot one.spare one.tie other.spare other.tie) one.reads) other.reads

module _ (g : Geometry) (site : Site) (line : SliceLine) (content : ℕ → List ℕ) where
  abbrev At : Master → ℕ → PlaceAt
  At first k = place_on line first.blocks first.count k

  module _ (first : Master) where
    readable_one : (k n m : ℕ) → ReadableBy g site line first content k n → ReadableBy g site line first content k m → n ≡ m
    readable_one zero n m one other = one ∙ sym other
    readable_one (suc k) n m (h, i, place, chain, before, all) (l, j, its, link, ahead, both) =
        let heads : h ≡ l = one_there g site line first content k h l chain.readable.of_head link.readable.of_head in
        let same : i ≡ j = readable_one k i j before ahead in
        all ∙ (λ x. same x + (1 + open_slots (heads x))) ∙ sym both

    unreadable_one : (k n m : ℕ) → IsUnreadableBy g site line first content k n → IsUnreadableBy g site line first content k m → n ≡ m
    unreadable_one k n m one other = elim (cases_eq n m) [
      | inl same ↦ same
      | inr apart ↦ absurd (apart (one.headless (none apart) ∙ sym (other.headless (none apart))))
    ]
      where
        none : (n ≡ m → ⊥) → (h : Head) → IsHead (At first k) (size_on site line) content h → h.master.blocks ≡ first.blocks → ⊥
        none apart h is long =
            let a = one.headed h is long in
            let b = other.headed h is long in
            apart (a.2 ∙ ap (λ (x : ℕ). 1 + x) (unfit_one g (At first k) h content a.0 b.0 a.1 b.1) ∙ sym b.2)

    ends_one : (k n m : ℕ) → EndsBy g site line first content k n → EndsBy g site line first content k m → n ≡ m
    ends_one k n m (inl (none, one)) (inl (also, other)) = one ∙ sym other
    ends_one k n m (inl (none, one)) (inr other) = absurd (other.place none)
    ends_one k n m (inr one) (inl (none, other)) = absurd (one.place none)
    ends_one k n m (inr one) (inr other) = unreadable_one k n m one other

    -- a place before which all are readable
    abbrev Passed : ℕ → Type 0
    Passed j = (h : Head) × (HasNoPlace line first j → ⊥) × IsInChain (IsTextOf g) site line j content first h

    passed_of : (j k n : ℕ) → j < k → ReadableBy g site line first content k n → Passed j
    passed_of j zero n less none = absurd (omega (arith, less))
    passed_of j (suc k) n less (h, i, place, chain, before, all) = elim (cases_lt j k) [
      | inl earlier ↦ passed_of j k i earlier before
      | inr most ↦ subst Passed (omega (arith, less, most)) (h, place, chain)
    ]

    never_ends : (j n : ℕ) → Passed j → EndsBy g site line first content j n → ⊥
    never_ends j n (h, place, chain) (inl (none, is)) = place none
    never_ends j n (h, place, chain) (inr ends) = ends.never h chain

    -- two walks end at one number
    walks_one : (n m : ℕ) → IsWalkedBy g site line first content n → IsWalkedBy g site line first content m → n ≡ m
    walks_one n m one other = elim (cases_eq one.number other.number) [
      | inl same ↦ by same
      | inr apart ↦ elim (cases_lt one.number other.number) [
        | inl less ↦ absurd (never_ends one.number one.more (passed_of one.number other.number other.calls less other.readable) one.ends)
        | inr most ↦ absurd (never_ends other.number other.more (passed_of other.number one.number one.calls (omega (arith, apart, most)) one.readable) other.ends)
      ]
    ]
      where
        by : one.number ≡ other.number → n ≡ m
        by same =
            let calls = readable_one other.number one.calls other.calls (subst (λ (k : ℕ). ReadableBy g site line first content k one.calls) same one.readable) other.readable in
            let more = ends_one other.number one.more other.more (subst (λ (k : ℕ). EndsBy g site line first content k one.more) same one.ends) other.ends in
            one.all ∙ (λ x. calls x + more x) ∙ sym other.all

    -- a head of the slice's length at its first place is one that the look sees there
    first_of_length : (h : Head) → (HasNoPlace line first 0 → ⊥) → IsHead (At first 0) (size_on site line) content h → h.master.blocks ≡ first.blocks → IsHead (first_at line (most_on line)) (size_on site line) content h
    first_of_length h begins is long = elim (cases_lt line.at.blocks (16 + 0 * first.blocks + first.blocks)) [
      | inl short ↦ absurd (begins (inl short))
      | inr fits ↦ (let most = is.lies.most in head_first line (size_on site line) content h first.blocks first.count (most_on line) is (omega (arith, fits, most, long)))
    ]

    -- where the first place has no head
    module _ (none : (h : Head) → IsHead (first_at line (most_on line)) (size_on site line) content h → ⊥) (begins : HasNoPlace line first 0 → ⊥) where
      first_ends : (n : ℕ) → EndsBy g site line first content 0 n → n ≡ 1
      first_ends n (inl (past, is)) = absurd (begins past)
      first_ends n (inr ends) = ends.headless (λ h is long. none h (first_of_length h begins is long))

      first_walked : (k i n : ℕ) → ReadableBy g site line first content k i → EndsBy g site line first content k n → i + n ≡ 1
      first_walked zero i n readable ends = (let one = first_ends n ends in omega (arith, readable, one))
      first_walked (suc k) i n readable ends =
          let passed = passed_of 0 (suc k) i (omega arith) readable in
          absurd (none passed.0 (first_of_length passed.0 begins passed.2.readable.of_head passed.2.length))

  slice_once : (n m : ℕ) → IsSliceBy g site line content n → IsSliceBy g site line content m → n ≡ m
  slice_once n m (inl (none, one)) (inl (also, other)) = one ∙ sym other
  slice_once n m (inl (none, one)) (inr (first, walked)) = one ∙ sym (first_walked first none walked.begins walked.number walked.calls walked.more walked.readable walked.ends) ∙ sym walked.all
  slice_once n m (inr (first, walked)) (inl (none, other)) = walked.all ∙ first_walked first none walked.begins walked.number walked.calls walked.more walked.readable walked.ends ∙ sym other
  slice_once n m (inr (first, one)) (inr (also, other)) =
      walks_one also n m (subst (λ (x : Master). IsWalkedBy g site line x content n) (one_master line (size_on site line) (content (line.at.start + 16)) first also one.located other.located) one) other

-- the slices one after another
module _ (g : Geometry) (site : Site) (up failed : Drives) (content : Contents) where
  abbrev LineBy : SliceLine → Bool → ℕ → Type 0
  LineBy line is_up n = MatchBool is_up ((n ≤ 765) × (has_drive failed line.at.drive ≡ false → IsSliceBy g site line (content line.at.drive.0) n)) (n ≡ 0)

  line_once : (line : SliceLine) → (has_drive up line.at.drive ≡ true → has_drive failed line.at.drive ≡ false) → (n m : ℕ) → IsLineBy g site up failed content line n → IsLineBy g site up failed content line m → n ≡ m
  line_once line calm n m one other = by (has_drive up line.at.drive) calm one other
    where
      by : (b : Bool) → (b ≡ true → has_drive failed line.at.drive ≡ false) → LineBy line b n → LineBy line b m → n ≡ m
      by true answered (few, slice) (also, its) = slice_once g site line (content line.at.drive.0) n m (slice (answered refl)) (its (answered refl))
      by false answered none also = none ∙ sym also

  lines_once : (lines : List SliceLine) → AreAnswered up failed lines → (n m : ℕ) → AreLinesBy g site up failed content lines n → AreLinesBy g site up failed content lines m → n ≡ m
  lines_once [] answered n m one other = one ∙ sym other
  lines_once (line ∷ lines) answered n m (i, k, here, rest, all) (j, l, its, behind, both) =
      let first = line_once line (answered line (Contains-append_left (line ∷ []) lines line (Contains-push [] line))) i j here its in
      let later = lines_once lines (λ x has. answered x (Contains-append_right (line ∷ []) lines x has)) k l rest behind in
      all ∙ (λ x. first x + later x) ∙ sym both

pub counts_are_one : CountsAreOne
counts_are_one g site up failed content lines answered n m one other = lines_once g site up failed content lines answered n m one other
