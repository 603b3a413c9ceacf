-- Which replicas of a slice are found, as far as a look has come.
use Rattle.std.proofs.Common.{◌≡◌, ◌⊎◌, inl, inr, ℕ, ◌+◌, ◌*◌, ◌<◌, ◌≤◌, Bool, true, List, [], ◌∷◌, ◌++◌, refl, sym, ◌∙◌, ap, subst, None, arith}
use Rattle.std.specs.Prelude.{Contains}
use Rattle.std.proofs.lemmas.Bool.{cases_lt}
use Rattle.std.proofs.lemmas.List.Elements.{Contains-append_left, Contains-push, Contains-push_cases}
use Rattle.mdv_replica.proofs.Heads.{one_head}
use Rattle.mdv_replica.specs.Replica.{IsHeadOf, LiesAt}
use Rattle.mdv_shown.proofs.Elsewhere.{one_master, places_step}
use Rattle.mdv_survey.specs.Below.{Counts, DriveNo, First, Geometry, Head, IsFound, IsHead, IsInChain, IsMasterAt, IsTextOf, Master, PlaceAt, Second, Site, SliceLine, SlotFits, place_on, size_on, with_blocks}
use Rattle.mdv_survey.specs.Newest.{HasTable}
use Rattle.mdv_survey.specs.Replica.{Contents, IsFoundIn, at_of}
use Rattle.mdv_survey.specs.Others.{ComesTo, IsAhead, IsOtherIn, first_at, most_on}
use Rattle.mdv_survey.specs.Slice.{AreFound, IsHeadThere, WasLookedAt}
use Rattle.mdv_survey.specs.Slots.{BothFit}
use Rattle.mdv_survey.specs.declared.replica.Finds.{Finds}
use Rattle.mdv_survey.specs.declared.replica.Other.{Other}
use Rattle.mdv_survey.specs.declared.replica.Replica.{Replica}
use Rattle.mdv_survey.proofs.Told.{told_end, told_fewer, told_other, told_replica, with_other}

abbrev InChain : Geometry → Site → SliceLine → ℕ → (ℕ → List ℕ) → Master → Head → Type 0
InChain g site line k content first head = IsInChain (IsTextOf g) site line k content first head

next_place : (n b : ℕ) → (n + 1) * b ≡ n * b + b
next_place n b = grind arith

-- The first place of a slice, with whatever length.
module _ (line : SliceLine) (size : ℕ) (content : ℕ → List ℕ) (head : Head) where
  abbrev HeadFrom : PlaceAt → ℕ → Type 0
  HeadFrom at n = IsHeadOf at size (content n) (content (n + 1)) (content (n + 2)) (content (n + 3)) head

  pub lies_first : (blocks count most : ℕ) → LiesAt (place_on line blocks count 0) size head.master → head.master.blocks ≤ most → LiesAt (first_at line most) size head.master
  lies_first blocks count most lies fits = record {
    slice = lies.slice;
    start = (let start = lies.start in omega (arith, start));
    least = lies.least;
    most = lies.most;
    in_place = fits;
    within = (let within = lies.within in omega (arith, within));
  }

  pub lies_at_zero : (blocks count most : ℕ) → LiesAt (first_at line most) size head.master → head.master.blocks ≤ blocks → LiesAt (place_on line blocks count 0) size head.master
  lies_at_zero blocks count most lies fits = record {
    slice = lies.slice;
    start = (let start = lies.start in omega (arith, start));
    least = lies.least;
    most = lies.most;
    in_place = fits;
    within = (let within = lies.within in omega (arith, within));
  }

  pub head_first : (blocks count most : ℕ) → IsHead (place_on line blocks count 0) size content head → head.master.blocks ≤ most → IsHead (first_at line most) size content head
  head_first blocks count most is fits =
      let there : HeadFrom (first_at line most) (line.at.start + (16 + 0 * blocks)) = record {
        master = is.master;
        master_block = is.master_block;
        lies = lies_first blocks count most is.lies fits;
        claim = is.claim;
        claim_block = is.claim_block;
        first = is.first;
        first_block = is.first_block;
        second = is.second;
        second_block = is.second_block;
      } in
      let same : line.at.start + (16 + 0 * blocks) ≡ line.at.start + 16 = omega arith in
      subst (HeadFrom (first_at line most)) same there

  pub head_at_zero : (blocks count most : ℕ) → IsHead (first_at line most) size content head → head.master.blocks ≤ blocks → IsHead (place_on line blocks count 0) size content head
  head_at_zero blocks count most is fits =
      let there : HeadFrom (place_on line blocks count 0) (line.at.start + 16) = record {
        master = is.master;
        master_block = is.master_block;
        lies = lies_at_zero blocks count most is.lies fits;
        claim = is.claim;
        claim_block = is.claim_block;
        first = is.first;
        first_block = is.first_block;
        second = is.second;
        second_block = is.second_block;
      } in
      let same : line.at.start + 16 ≡ line.at.start + (16 + 0 * blocks) = omega arith in
      subst (HeadFrom (place_on line blocks count 0)) same there

  pub located_first : (most : ℕ) → IsHead (first_at line most) size content head → IsMasterAt (place_on line 8192 0 0) size (content (line.at.start + 16)) head.master
  located_first most is = record { form = is.master; spelled = is.master_block; lies = lies_at_zero 8192 0 most is.lies is.lies.most }

-- what is found on the slice is so under its one first master
module _ (g : Geometry) (site : Site) (content : Contents) (line : SliceLine) where
  on_slice : (r : Replica) → r.line ≡ line → IsFoundIn g site content r → IsFound (IsTextOf g) site line r.number (content line.at.drive.0) r.first r.head
  on_slice r same is = subst (λ (l : SliceLine). IsFound (IsTextOf g) site l r.number (content l.at.drive.0) r.first r.head) same is

  -- there is none where the first place has no head
  pub none_headless : IsHeadThere (first_at line (most_on line)) (size_on site line) (content line.at.drive.0) None → (r : Replica) → r.line ≡ line → IsFoundIn g site content r → ⊥
  none_headless there r same is =
      let found = on_slice r same is in
      by (cases_zero r.number) found
    where
      cases_zero : (n : ℕ) → (n ≡ 0) ⊎ (0 < n)
      cases_zero n = elim (cases_lt 0 n) [ inl some ↦ inr some | inr none ↦ inl (omega (arith, none)) ]

      never : (h : Head) → InChain g site line 0 (content line.at.drive.0) r.first h → 16 + r.number * r.first.blocks + r.first.blocks ≤ line.at.blocks → ⊥
      never h chain within =
          let length = chain.length in
          let most = chain.readable.of_head.lies.most in
          let none = there.spelled h (head_first line (size_on site line) (content line.at.drive.0) h r.first.blocks r.first.count (most_on line) chain.readable.of_head (omega (arith, length, most, within))) in
          absurd (cc (none))

      by : (r.number ≡ 0) ⊎ (0 < r.number) → IsFound (IsTextOf g) site line r.number (content line.at.drive.0) r.first r.head → ⊥
      by (inl zero) found = never r.head (subst (λ (n : ℕ). InChain g site line n (content line.at.drive.0) r.first r.head) zero found.here) found.within
      by (inr some) found = let chain = found.before 0 some in never chain.0 chain.1 found.within

  module _ (first : Master) (located : IsMasterAt (place_on line 8192 0 0) (size_on site line) (content line.at.drive.0 (line.at.start + 16)) first) where
    same_first : (r : Replica) → r.line ≡ line → IsFoundIn g site content r → r.first ≡ first
    same_first r same is = one_master line (size_on site line) (content line.at.drive.0 (line.at.start + 16)) r.first first (on_slice r same is).located located

    found_here : (r : Replica) → r.line ≡ line → IsFoundIn g site content r → IsFound (IsTextOf g) site line r.number (content line.at.drive.0) first r.head
    found_here r same is = subst (λ (m : Master). IsFound (IsTextOf g) site line r.number (content line.at.drive.0) m r.head) (same_first r same is) (on_slice r same is)

    -- nor from a number on that isn't readable
    pub none_unreadable : (number : ℕ) → ((h : Head) → InChain g site line number (content line.at.drive.0) first h → ⊥) → (r : Replica) → r.line ≡ line → number ≤ r.number → IsFoundIn g site content r → ⊥
    none_unreadable number never r same from is =
        let found = found_here r same is in
        elim (cases_lt number r.number) [
          | inl less ↦ (let chain = found.before number less in never chain.0 chain.1)
          | inr most ↦ never r.head (subst (λ (n : ℕ). InChain g site line n (content line.at.drive.0) first r.head) (omega (arith, most, from)) found.here)
        ]

    -- nor from one on that would end behind the slice
    pub none_beyond : (number : ℕ) → line.at.blocks < 16 + number * first.blocks + first.blocks → (r : Replica) → r.line ≡ line → number ≤ r.number → IsFoundIn g site content r → ⊥
    none_beyond number beyond r same from is =
        let within = (found_here r same is).within in
        elim (cases_lt number r.number) [
          | inl less ↦ (let step = places_step number r.number first.blocks less in absurd (omega (arith, step, beyond, within)))
          | inr most ↦ (let equal : r.number * first.blocks ≡ number * first.blocks = ap (λ (n : ℕ). n * first.blocks) (omega (arith, most, from)) in absurd (omega (arith, equal, beyond, within)))
        ]

    -- a replica of the number that was looked at
    module _ (number : ℕ) (head : Head) (chain : InChain g site line number (content line.at.drive.0) first head) where
      same_head : (r : Replica) → r.line ≡ line → r.number ≡ number → IsFoundIn g site content r → r.head ≡ head
      same_head r same numbered is =
          let c = content line.at.drive.0 in
          let here : InChain g site line number c first r.head = subst (λ (n : ℕ). InChain g site line n c first r.head) numbered (found_here r same is).here in
          let at = place_on line first.blocks first.count number in
          one_head at (size_on site line) (c at.first) (c (at.first + 1)) (c (at.first + 2)) (c (at.first + 3)) r.head head here.readable.of_head chain.readable.of_head

      abbrev this : Replica
      this = record { line = line; number = number; first = first; head = head }

      same_replica : (r : Replica) → r.line ≡ line → r.number ≡ number → IsFoundIn g site content r → r ≡ this
      same_replica r same numbered is =
          let one = same_first r same is in
          let other = same_head r same numbered is in
          λ i. record { line = same i; number = numbered i; first = one i; head = other i }

      ahead_chain : (before : (j : ℕ) → j < number → (h : Head) × InChain g site line j (content line.at.drive.0) first h) (j : ℕ) → j < number + 1 → (h : Head) × InChain g site line j (content line.at.drive.0) first h
      ahead_chain before j less = elim (cases_lt j number) [
        | inl earlier ↦ before j earlier
        | inr most ↦ (head, subst (λ (n : ℕ). InChain g site line n (content line.at.drive.0) first head) (omega (arith, less, most)) chain)
      ]

      pub ahead_more : 16 + number * first.blocks + first.blocks ≤ line.at.blocks → IsAhead g site line first number (content line.at.drive.0) → IsAhead g site line first (number + 1) (content line.at.drive.0)
      ahead_more within ahead = record {
        located = ahead.located;
        before = ahead_chain ahead.before;
        within = (let product : (number + 1) * first.blocks ≡ number * first.blocks + first.blocks = next_place number first.blocks in omega (arith, product, within));
      }

      -- none is found there where it is of another key
      pub never_key : (head.master.key ≡ site.key → ⊥) → (r : Replica) → r.line ≡ line → r.number ≡ number → IsFoundIn g site content r → ⊥
      never_key other r same numbered is = (let one = same_head r same numbered is in other (subst (λ (h : Head). h.master.key ≡ site.key) one is.of_key))

      module _ (answers : DriveNo → Bool) (lines : List SliceLine) where
        -- it was added
        pub found_more : (old new : Finds) → IsFoundIn g site content this → new.replicas ≡ old.replicas ++ this ∷ [] → new.others ≡ old.others → (HasTable g content old.replicas old.newest → HasTable g content new.replicas new.newest)
            → AreFound g site answers lines line number content old → AreFound g site answers lines line (number + 1) content new
        found_more old new is more others table found = record {
          each = λ x has. elim (Contains-push_cases old.replicas this x (subst (λ (rs : List Replica). Contains rs x) more has)) [
            | inl before ↦ found.each x before
            | inr same ↦ subst (IsFoundIn g site content) same is
          ];
          all = λ r there answered looked. subst (λ (rs : List Replica). Contains rs r) (sym more) (all r there answered looked);
          table = table found.table;
          told = told_replica g site content answers lines line number old new this refl refl more others found.told;
        }
          where
            kept : (r : Replica) → Contains old.replicas r → Contains (old.replicas ++ this ∷ []) r
            kept r has = Contains-append_left old.replicas (this ∷ []) r has

            all : (r : Replica) → IsFoundIn g site content r → answers r.line.at.drive ≡ true → WasLookedAt lines line (number + 1) r → Contains (old.replicas ++ this ∷ []) r
            all r there answered (inl earlier) = kept r (found.all r there answered (inl earlier))
            all r there answered (inr (same, less)) = elim (cases_lt r.number number) [
              | inl before ↦ kept r (found.all r there answered (inr (same, before)))
              | inr most ↦ subst (λ (x : Replica). Contains (old.replicas ++ this ∷ []) x) (sym (same_replica r same (omega (arith, less, most)) there)) (Contains-push old.replicas this)
            ]

  -- a place that has none
  pub found_other : (answers : DriveNo → Bool) (lines : List SliceLine) (old : Finds) (o : Other) → o.line ≡ line → IsOtherIn g site content o
      → AreFound g site answers lines line o.number content old → AreFound g site answers lines line (o.number + 1) content (with_other old o)
  found_other answers lines old o here is found = record { each = found.each; all = all; table = found.table; told = told_other g site content answers lines line o.number old (with_other old o) o is here refl refl refl found.told }
    where
      all : (r : Replica) → IsFoundIn g site content r → answers r.line.at.drive ≡ true → WasLookedAt lines line (o.number + 1) r → Contains old.replicas r
      all r there answered (inl earlier) = found.all r there answered (inl earlier)
      all r there answered (inr (same, less)) = elim (cases_lt r.number o.number) [
        | inl before ↦ found.all r there answered (inr (same, before))
        | inr most ↦ absurd (is.never r (same ∙ sym here) (omega (arith, less, most)) there)
      ]

  -- a look comes to where a replica is found
  comes_found : (r : Replica) → r.line ≡ line → IsFoundIn g site content r → (at : PlaceAt) × ComesTo g site line r.number (content line.at.drive.0) at
  comes_found r same is =
      let found = on_slice r same is in
      let within = found.within in
      elim (cases_lt 0 r.number) [
        | inr none ↦ (first_at line (most_on line), inl (omega (arith, none), refl))
        | inl some ↦ (
          place_on line r.first.blocks r.first.count r.number,
          inr (
            r.first,
            record {
              ahead = record { located = found.located; before = found.before; within = omega (arith, within) };
              behind = some;
              numbered = elim found.numbered [ inl none ↦ absurd (omega (arith, none, some)) | inr less ↦ less ];
            },
            refl,
          ),
        )
      ]

  -- the slice has no place from this number on
  pub found_end : (answers : DriveNo → Bool) (lines : List SliceLine) (number : ℕ) (finds : Finds) → ((k : ℕ) (at : PlaceAt) → number ≤ k → ComesTo g site line k (content line.at.drive.0) at → ⊥)
      → AreFound g site answers lines line number content finds → AreFound g site answers (lines ++ line ∷ []) line 0 content finds
  found_end answers lines number finds none found = record { each = found.each; all = all; table = found.table; told = told_end g site content answers lines line number finds none found.told }
    where
      all : (r : Replica) → IsFoundIn g site content r → answers r.line.at.drive ≡ true → WasLookedAt (lines ++ line ∷ []) line 0 r → Contains finds.replicas r
      all r there answered (inr (same, less)) = absurd (omega (arith, less))
      all r there answered (inl has) = elim (Contains-push_cases lines line r.line has) [
        | inl earlier ↦ found.all r there answered (inl earlier)
        | inr same ↦ elim (cases_lt r.number number) [
          | inl before ↦ found.all r there answered (inr (sym same, before))
          | inr from ↦ (let comes = comes_found r (sym same) there in absurd (none r.number comes.0 from comes.1))
        ]
      ]

  -- less is said of them
  pub found_fewer : (answers : DriveNo → Bool) (lines : List SliceLine) (number : ℕ) (finds : Finds) → AreFound g site answers lines line number content finds → AreFound g site answers lines line 0 content finds
  found_fewer answers lines number finds found = record {
    each = found.each;
    all = λ r there answered looked. found.all r there answered (fewer r looked);
    table = found.table;
    told = told_fewer g site content answers lines line number line finds found.told;
  }
    where
      fewer : (r : Replica) → WasLookedAt lines line 0 r → WasLookedAt lines line number r
      fewer r (inl earlier) = inl earlier
      fewer r (inr (same, less)) = absurd (omega (arith, less))

-- a replica whose head and slots were read
module _ (g : Geometry) (site : Site) (r : Replica) (c : ℕ → List ℕ) (is : IsHead (at_of r) (size_on site r.line) c r.head) (length : r.head.master.blocks ≡ r.first.blocks) where
  pub chain_of : BothFit g (at_of r) r.head c → InChain g site r.line r.number c r.first r.head
  chain_of both = record {
    readable = record {
      of_head = is;
      of_first = subst (λ (b : ℕ). SlotFits (Counts (IsTextOf g)) (with_blocks (at_of r) b) First r.head.first c) (sym length) both.first;
      of_second = subst (λ (b : ℕ). SlotFits (Counts (IsTextOf g)) (with_blocks (at_of r) b) Second r.head.second c) (sym length) both.second;
    };
    length = length;
  }

  fit_of : InChain g site r.line r.number c r.first r.head → BothFit g (at_of r) r.head c
  fit_of chain = record {
    first = subst (λ (b : ℕ). SlotFits (Counts (IsTextOf g)) (with_blocks (at_of r) b) First r.head.first c) length chain.readable.of_first;
    second = subst (λ (b : ℕ). SlotFits (Counts (IsTextOf g)) (with_blocks (at_of r) b) Second r.head.second c) length chain.readable.of_second;
  }

  -- slots that don't both fit leave it out of the chain, whatever head is there
  pub unchained : (BothFit g (at_of r) r.head c → ⊥) → (h : Head) → InChain g site r.line r.number c r.first h → ⊥
  unchained never h chain =
      let at = at_of r in
      let same : h ≡ r.head = one_head at (size_on site r.line) (c at.first) (c (at.first + 1)) (c (at.first + 2)) (c (at.first + 3)) h r.head chain.readable.of_head is in
      never (fit_of (subst (λ (x : Head). InChain g site r.line r.number c r.first x) same chain))
