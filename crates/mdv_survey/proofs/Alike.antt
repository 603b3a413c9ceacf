-- Two surveys of the same blocks tell the same letters.
use Rattle.std.proofs.Common.{◌≡◌, inl, inr, ℕ, ◌+◌, ◌*◌, Bool, true, false, ◌&&◌, not, cond, List, filter, refl, sym, ◌∙◌, ap, subst, Option, None, Some, arith}
use Rattle.std.specs.Prelude.{◌==◌, Contains}
use Rattle.std.specs.List.{find, list_any}
use Rattle.std.proofs.lemmas.Bool.{and_from, and_parts, cases_lt}
use Rattle.std.proofs.lemmas.Bool.Decides.{nat_tests}
use Rattle.std.proofs.lemmas.List.Elements.{All-contains, All-contains_itself, All-filter}
use Rattle.std.proofs.lemmas.List.Folds.{Any-from_list_any, list_any_at}
use Rattle.mdv_base.specs.declared.drive.SliceName.{SliceName}
use Rattle.mdv_base.specs.declared.name.Key.{Key}
use Rattle.mdv_name.proofs.Finding.{same_slice-equal}
use Rattle.mdv_name.specs.SliceIndex.{HasSlice, same_slice}
use Rattle.mdv_name.specs.Sound.{IsSound}
use Rattle.mdv_shown.proofs.Elsewhere.{one_master, places_step}
use Rattle.mdv_shown.specs.Sites.{is_line_of, site_of}
use Rattle.mdv_survey.specs.Below.{Drives, Flags, Geometry, Master, Place, PlaceAt, Site, SliceLine, has_drive, place_on, size_on}
use Rattle.mdv_survey.specs.Laws.{AreSameDrives, IsCalmSurvey, LettersAreOne}
use Rattle.mdv_survey.specs.Letters.{begins_at, is_other_at, is_unread_on, letters_at, letters_of_other, located_alone}
use Rattle.mdv_survey.specs.Others.{AreLetters, AreSeen, ComesTo, IsOtherIn, IsReached, IsNumberTold, seen_flags}
use Rattle.mdv_survey.specs.Replica.{Contents}
use Rattle.mdv_survey.specs.declared.replica.Other.{Other}
use Rattle.mdv_survey.specs.declared.replica.Replica.{Replica}
use Rattle.mdv_survey.specs.declared.replica.Survey.{Survey}
use Rattle.mdv_survey.proofs.Identities.{find_none, find_some}

-- a name stands for one slice of the site
abbrev AreNamedOnce : Site → Type 0
AreNamedOnce site = (a b : SliceLine) → Contains site.lines a → Contains site.lines b → a.name ≡ b.name → a ≡ b

one_bool : (a b : Bool) → (a ≡ true → b ≡ true) → (b ≡ true → a ≡ true) → a ≡ b
one_bool true b forth back = sym (forth refl)
one_bool false true forth back = back refl
one_bool false false forth back = refl

one_bool_not : (a b : Bool) → (a ≡ false → b ≡ false) → (b ≡ false → a ≡ false) → a ≡ b
one_bool_not true true forth back = refl
one_bool_not true false forth back = back refl
one_bool_not false b forth back = sym (forth refl)

any_forth : {X : Type 0} (p q : X → Bool) (xs ys : List X) → ((x : X) → Contains xs x → p x ≡ true → Contains ys x × (q x ≡ true)) → list_any p xs ≡ true → list_any q ys ≡ true
any_forth p q xs ys there is =
    let found = Any-from_list_any p xs is in
    let also = there found.1 (found.0, found.2, found.3) found.4 in
    list_any_at q ys also.0.0 found.1 also.0.1 (ap q also.0.2 ∙ also.1)

any_one : {X : Type 0} (p q : X → Bool) (xs ys : List X) → ((x : X) → Contains xs x → p x ≡ true → Contains ys x × (q x ≡ true)) → ((x : X) → Contains ys x → q x ≡ true → Contains xs x × (p x ≡ true)) → list_any p xs ≡ list_any q ys
any_one p q xs ys there back = one_bool (list_any p xs) (list_any q ys) (any_forth p q xs ys there) (any_forth q p ys xs back)

equal_starts : (m n : ℕ) → (m == n) ≡ true → m ≡ n
equal_starts m n is = grind (arith, nat_tests)

module _ (g : Geometry) (site : Site) (line : SliceLine) (c : ℕ → List ℕ) where
  first_one : (m n : Master) (k j : ℕ) → IsReached g site line m k c → IsReached g site line n j c → m ≡ n
  first_one m n k j one other = one_master line (size_on site line) (c (line.at.start + 16)) m n one.ahead.located other.ahead.located

  -- a look comes to one place of a number
  comes_one : (k : ℕ) (at also : PlaceAt) → ComesTo g site line k c at → ComesTo g site line k c also → at ≡ also
  comes_one k at also (inl (zero, is)) (inl (none, its)) = is ∙ sym its
  comes_one k at also (inl (zero, is)) (inr (n, other, its)) = (let some = other.behind in absurd (omega (arith, zero, some)))
  comes_one k at also (inr (m, one, is)) (inl (none, its)) = (let some = one.behind in absurd (omega (arith, none, some)))
  comes_one k at also (inr (m, one, is)) (inr (n, other, its)) =
      is ∙ ap (λ (x : Master). place_on line x.blocks x.count k) (first_one m n k k one other) ∙ sym its

  -- and to one number where the slice has a place's first block
  one_number : (m : Master) (k j : ℕ) → IsReached g site line m k c → 16 + k * m.blocks ≡ 16 + j * m.blocks → k ≡ j
  one_number m k j one same =
      let least = one.ahead.located.lies.least in
      elim (cases_lt k j) [
        | inl less ↦ (let step = places_step k j m.blocks less in absurd (omega (arith, step, same, least)))
        | inr most ↦ elim (cases_lt j k) [ inl less ↦ (let step = places_step j k m.blocks less in absurd (omega (arith, step, same, least))) | inr both ↦ omega (arith, most, both) ]
      ]

  behind_first : (m : Master) (k : ℕ) → IsReached g site line m k c → 16 ≡ 16 + k * m.blocks → ⊥
  behind_first m k one same = (let least = one.ahead.located.lies.least in let step = places_step 0 k m.blocks one.behind in omega (arith, least, step, same))

  starts_one : (k j : ℕ) (at also : PlaceAt) → ComesTo g site line k c at → ComesTo g site line j c also → at.place.start ≡ also.place.start → k ≡ j
  starts_one k j at also (inl (zero, is)) (inl (none, its)) same = zero ∙ sym none
  starts_one k j at also (inl (zero, is)) (inr (n, other, its)) same =
      absurd (behind_first n j other (sym (ap (λ (p : PlaceAt). p.place.start) is) ∙ same ∙ ap (λ (p : PlaceAt). p.place.start) its))
  starts_one k j at also (inr (m, one, is)) (inl (none, its)) same =
      absurd (behind_first m k one (sym (ap (λ (p : PlaceAt). p.place.start) its) ∙ sym same ∙ ap (λ (p : PlaceAt). p.place.start) is))
  starts_one k j at also (inr (m, one, is)) (inr (n, other, its)) same =
      let starts : 16 + k * m.blocks ≡ 16 + j * n.blocks = sym (ap (λ (p : PlaceAt). p.place.start) is) ∙ same ∙ ap (λ (p : PlaceAt). p.place.start) its in
      one_number m k j one (starts ∙ ap (λ (x : Master). 16 + j * x.blocks) (sym (first_one m n k j one other)))

  -- and sees one thing there
  seen_one : (at : PlaceAt) (size k : ℕ) (a b : Flags) → AreSeen g at size k c a → AreSeen g at size k c b → a ≡ b
  seen_one at size k a b one other =
      let located : a.located ≡ b.located = one_bool a.located b.located (λ is. other.located.1 (one.located.0 is)) (λ is. one.located.1 (other.located.0 is)) in
      let form : a.form_fault ≡ b.form_fault = one_bool_not a.form_fault b.form_fault (λ is. other.formed.1 (one.formed.0 is)) (λ is. one.formed.1 (other.formed.0 is)) in
      let body : a.body_fault ≡ b.body_fault = one_bool a.body_fault b.body_fault (λ is. other.bodies.1 (one.bodies.0 is)) (λ is. one.bodies.1 (other.bodies.0 is)) in
      one.letters ∙ (λ i. seen_flags (located i) (form i) (not (located i)) (body i)) ∙ sym other.letters

  letters_one : (at : PlaceAt) (k : ℕ) (a b : Flags) → AreLetters g site line k c at a → AreLetters g site line k c at b → a ≡ b
  letters_one at k a b (inl (past, is)) (inl (beyond, its)) = is ∙ sym its
  letters_one at k a b (inl (past, is)) (inr (within, its)) = absurd (omega (arith, past, within))
  letters_one at k a b (inr (within, is)) (inl (past, its)) = absurd (omega (arith, past, within))
  letters_one at k a b (inr (within, is)) (inr (inside, its)) = seen_one at (size_on site line) k a b is its

module _ (g : Geometry) (site : Site) (content : Contents) where
  abbrev AtLine : SliceLine → ℕ → PlaceAt → Flags → Type 0
  AtLine l k at flags = ComesTo g site l k (content l.at.drive.0) at × AreLetters g site l k (content l.at.drive.0) at flags

  on_line : (o : Other) (l : SliceLine) → o.line ≡ l → (is : IsOtherIn g site content o) → AtLine l o.number is.at o.flags
  on_line o l same is = subst (λ (x : SliceLine). AtLine x o.number is.at o.flags) same (is.comes, is.letters)

  -- two that begin at one block are one place
  flags_one : (a b : Other) → a.line ≡ b.line → a.start ≡ b.start → IsOtherIn g site content a → IsOtherIn g site content b → a.flags ≡ b.flags
  flags_one a b lines starts one other =
      let c = content b.line.at.drive.0 in
      let here = on_line a b.line lines one in
      let numbers : a.number ≡ b.number = starts_one g site b.line c a.number b.number one.at other.at here.0 other.comes (sym one.start ∙ starts ∙ other.start) in
      let there : AtLine b.line b.number one.at a.flags = subst (λ (k : ℕ). AtLine b.line k one.at a.flags) numbers here in
      let places : one.at ≡ other.at = comes_one g site b.line c b.number one.at other.at there.0 other.comes in
      letters_one g site b.line c other.at b.number a.flags b.flags (subst (λ (p : PlaceAt). AreLetters g site b.line b.number c p a.flags) places there.1) other.letters

  numbered_one : (a b : Other) → b.line ≡ a.line → b.number ≡ a.number → IsOtherIn g site content a → IsOtherIn g site content b → b.start ≡ a.start
  numbered_one a b lines numbers one other =
      let c = content a.line.at.drive.0 in
      let here = on_line b a.line lines other in
      let there : ComesTo g site a.line a.number c other.at = subst (λ (k : ℕ). ComesTo g site a.line k c other.at) numbers here.0 in
      other.start ∙ ap (λ (p : PlaceAt). p.place.start) (comes_one g site a.line c a.number other.at one.at there one.comes) ∙ sym one.start

  module _ (once : AreNamedOnce site) where
    module _ (up also : Drives) (same : AreSameDrives site up also) (a b : Survey) (one : IsCalmSurvey g site content up a) (other : IsCalmSurvey g site content also b) where
      answered : (l : SliceLine) → Contains site.lines l → has_drive up l.at.drive ≡ true → (has_drive also l.at.drive && not (has_drive b.failed l.at.drive)) ≡ true
      answered l one_of is =
          let up_too = sym (same l one_of) ∙ is in
          and_from (has_drive also l.at.drive) (not (has_drive b.failed l.at.drive)) up_too (ap not (other.none l.at.drive up_too))

      replica_forth : (r : Replica) → Contains a.replicas r → Contains b.replicas r
      replica_forth r has = (let found = one.of.each r has in other.of.all r found (answered r.line found.one_of (one.survey_is.each r has).is_up))

      -- another place of the one has one of the other there
      other_there : (o : Other) → Contains a.others o → (p : Other) × Contains b.others p × (p.line ≡ o.line) × (p.start ≡ o.start)
      other_there o has =
          let is = one.of.others o has in
          let on = one.survey_is.others_on o has in
          by is (other.of.told o.line o.number is.at on.0 (answered o.line on.0 on.1) is.comes)
        where
          by : IsOtherIn g site content o → IsNumberTold b.replicas b.others o.line o.number → (p : Other) × Contains b.others p × (p.line ≡ o.line) × (p.start ≡ o.start)
          by is (inl (r, there, line, number)) = absurd (is.never r line number (other.of.each r there))
          by is (inr (p, there, line, number)) = (p, there, line, numbered_one o p line number is (other.of.others p there))

      -- of a place that the one tells of the other does too
      never_untold : (place : Place) (o : Other) → find (is_other_at place) a.others ≡ Some o → find (is_other_at place) b.others ≡ None → ⊥
      never_untold place o found none =
          let has = find_some (is_other_at place) a.others o found in
          let there = other_there o has.0 in
          let here : is_other_at place there.0 ≡ true =
          (λ i. same_slice (there.2 i).name place.slice && (there.3 i == place.start)) ∙ has.1 in
          let never = find_none (is_other_at place) b.others none there.0 there.1.0 there.1.1 there.1.2 in
          absurd (cc (here, never))

      both_told : (place : Place) (o p : Other) → find (is_other_at place) a.others ≡ Some o → find (is_other_at place) b.others ≡ Some p → o.flags ≡ p.flags
      both_told place o p found also_found =
          let has = find_some (is_other_at place) a.others o found in
          let too = find_some (is_other_at place) b.others p also_found in
          let here = and_parts (same_slice o.line.name place.slice) (o.start == place.start) has.1 in
          let there = and_parts (same_slice p.line.name place.slice) (p.start == place.start) too.1 in
          let names : o.line.name ≡ p.line.name = same_slice-equal o.line.name place.slice here.0 ∙ sym (same_slice-equal p.line.name place.slice there.0) in
          let is = one.of.others o has.0 in
          let its = other.of.others p too.0 in
          flags_one o p (once o.line p.line is.one_of its.one_of names) (equal_starts o.start place.start here.1 ∙ sym (equal_starts p.start place.start there.1)) is its

      unread_forth : (place : Place) (l : SliceLine) → Contains site.lines l → is_unread_on up place l ≡ true → Contains site.lines l × (is_unread_on also place l ≡ true)
      unread_forth place l has is = (has, ap (λ (d : Bool). same_slice l.name place.slice && not d) (sym (same l has)) ∙ is)

    module _ (up also : Drives) (same : AreSameDrives site up also) (a b : Survey) (one : IsCalmSurvey g site content up a) (other : IsCalmSurvey g site content also b) where
      back : AreSameDrives site also up
      back l has = sym (same l has)

      others_one : (place : Place) (x y : Option Other) → find (is_other_at place) a.others ≡ x → find (is_other_at place) b.others ≡ y → (m n : Bool) → m ≡ n → letters_of_other x m ≡ letters_of_other y n
      others_one place (Some o) (Some p) found too m n unread = both_told up also same a b one other place o p found too
      others_one place (Some o) None found none m n unread = absurd (never_untold up also same a b one other place o found none)
      others_one place None (Some p) none found m n unread = absurd (never_untold also up back b a other one place p found none)
      others_one place None None none never m n unread = ap (letters_of_other None) unread

      one_letters : (place : Place) → letters_at site a.replicas a.others up place ≡ letters_at site b.replicas b.others also place
      one_letters place =
          let found = any_one (begins_at place) (begins_at place) a.replicas b.replicas (λ r has is. (replica_forth up also same a b one other r has, is)) (λ r has is. (replica_forth also up back b a other one r has, is)) in
          let unread = any_one (is_unread_on up place) (is_unread_on also place) site.lines site.lines (unread_forth up also same a b one other place) (unread_forth also up back b a other one place) in
          let others = others_one place (find (is_other_at place) a.others) (find (is_other_at place) b.others) refl refl (list_any (is_unread_on up place) site.lines) (list_any (is_unread_on also place) site.lines) unread in
          λ i. cond (found i) located_alone (others i)

-- what passes a test was there
was_in : {X : Type 0} (p : X → Bool) (xs : List X) (x : X) → Contains (filter p xs) x → Contains xs x
was_in p xs x has = All-contains (Contains xs) (filter p xs) x (All-filter p (Contains xs) xs (All-contains_itself xs)) has

-- so it is with the site of each database of a sound table of drives
named_once : (g : Geometry) (key : Key) → IsSound g → AreNamedOnce (site_of g key)
named_once g key sound a b in_a in_b same =
    let first : HasSlice g.slices a.name a.at = was_in (is_line_of g key) g.slices a in_a in
    let second : HasSlice g.slices b.name b.at = was_in (is_line_of g key) g.slices b in_b in
    let lies : a.at ≡ b.at = sound.once a.name a.at b.at first (subst (λ (s : SliceName). HasSlice g.slices s b.at) (sym same) second) in
    λ i. record { name = same i; at = lies i }

pub letters_are_one : LettersAreOne
letters_are_one g key content up also a b sound same one other place = one_letters g (site_of g key) content (named_once g key sound) up also same a b one other place
