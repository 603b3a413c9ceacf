-- What a look sees at a place that has no replica of the key.
use Rattle.std.proofs.Common.{◌≡◌, inl, inr, ℕ, ◌+◌, ◌*◌, ◌<◌, ◌≤◌, Bool, true, false, List, refl, sym, ◌∙◌, ap, subst, None, Some, arith}
use Rattle.std.specs.Prelude.{Contains}
use Rattle.std.proofs.lemmas.Bool.{cases_lt}
use Rattle.mdv_replica.proofs.Heads.{one_head}
use Rattle.mdv_replica.specs.Seen.{HasClaimAndGates, IsLook}
use Rattle.mdv_replica.specs.declared.looking.Seen.{Seen}
use Rattle.mdv_survey.specs.Below.{Closed, First, Flags, Gate, Geometry, Head, IsHead, IsMasterAt, Master, Open, Place, PlaceAt, Second, Site, Slot, SliceLine, place_on, size_on, with_blocks}
use Rattle.mdv_survey.specs.Others.{AreLetters, AreSeen, IsAhead, IsLong, IsOtherIn, IsReached, first_at, first_of, headed_flags, most_on, unread_flags}
use Rattle.mdv_survey.specs.Replica.{Contents, IsFoundIn, IsSeated, at_of, other_of}
use Rattle.mdv_survey.specs.Slice.{IsHeadThere, IsSeenThere}
use Rattle.mdv_survey.specs.Slots.{BothFit, Fits}
use Rattle.mdv_survey.specs.declared.replica.Replica.{Replica}
use Rattle.mdv_survey.proofs.Chains.{head_first, none_headless}

-- The same blocks by another name: slots fit as well there.
module _ (g : Geometry) (a b : PlaceAt) (c : ℕ → List ℕ) (first : a.first ≡ b.first) (blocks : a.place.blocks ≡ b.place.blocks) where
  abbrev FitsAt : ℕ → ℕ → Slot → Gate → Type 0
  FitsAt n m slot gate = Fits g (record b { first = n; place = record b.place { blocks = m } }) slot gate c

  fits_there : (slot : Slot) (gate : Gate) → Fits g a slot gate c → Fits g b slot gate c
  fits_there slot Closed fits = tt
  fits_there First (Open mark bytes) fits =
      subst (λ (n : ℕ). FitsAt n b.place.blocks First (Open mark bytes)) first (subst (λ (m : ℕ). FitsAt a.first m First (Open mark bytes)) blocks fits)
  fits_there Second (Open mark bytes) fits =
      subst (λ (n : ℕ). FitsAt n b.place.blocks Second (Open mark bytes)) first (subst (λ (m : ℕ). FitsAt a.first m Second (Open mark bytes)) blocks fits)

  both_there : (head : Head) → BothFit g a head c → BothFit g b head c
  both_there head both = record { first = fits_there First head.first both.first; second = fits_there Second head.second both.second }

-- a head that was read there
module _ (g : Geometry) (at : PlaceAt) (size number : ℕ) (c : ℕ → List ℕ) where
  one_there : (a b : Head) → IsHead at size c a → IsHead at size c b → a ≡ b
  one_there a b is also = one_head at size (c at.first) (c (at.first + 1)) (c (at.first + 2)) (c (at.first + 3)) a b is also

  its_rest : (head : Head) → IsHead at size c head → HasClaimAndGates at size c
  its_rest head is = record {
    within = (let within = is.lies.within in let least = is.lies.least in omega (arith, within, least));
    claim = head.claim;
    first = head.first;
    second = head.second;
    are = record { claim_form = is.claim; claim_block = is.claim_block; first_form = is.first; first_block = is.first_block; second_form = is.second; second_block = is.second_block };
  }

  its_master : (head : Head) → IsHead at size c head → IsMasterAt at size (c at.first) head.master
  its_master head is = record { form = is.master; spelled = is.master_block; lies = is.lies }

  -- its slots don't both fit, or do
  abbrev Unfit : Head → Type 0
  Unfit head = BothFit g (with_blocks at head.master.blocks) head c → ⊥

  pub seen_head : (head : Head) → IsHead at size c head → IsLong number at head.master.blocks → (fault : Bool) → (fault ≡ true → Unfit head) → (fault ≡ false → BothFit g (with_blocks at head.master.blocks) head c)
      → AreSeen g at size number c (headed_flags fault)
  seen_head head is long true unfit fits = record {
    letters = refl;
    located = (λ located. (head.master, its_master head is, long), λ master. refl);
    formed = (λ formed. its_rest head is, λ rest. refl);
    bodies = (λ fault. (head, is, long, unfit refl), λ other. refl);
  }
  seen_head head is long false unfit fits = record {
    letters = refl;
    located = (λ located. (head.master, its_master head is, long), λ master. refl);
    formed = (λ formed. its_rest head is, λ rest. refl);
    bodies = (
      λ fault. absurd (cc (fault)),
      λ (h, also, its, never). absurd (never (subst (λ (x : Head). BothFit g (with_blocks at x.master.blocks) x c) (one_there head h is also) (fits refl))),
    );
  }

  -- one that wasn't
  module _ (seen : Seen) (look : IsLook at size c seen) (none : (head : Head) → seen.head ≡ Some head → IsLong number at head.master.blocks → ⊥) (located : Bool)
      (yes : located ≡ true → (seen.flags.located ≡ true) × IsLong number at seen.place.blocks) (no : seen.flags.located ≡ true → IsLong number at seen.place.blocks → located ≡ true) where
    sized : (master : Master) → IsMasterAt at size (c at.first) master → seen.place.blocks ≡ master.blocks
    sized master is = ap (λ (p : Place). p.blocks) (look.sized master is)

    pub seen_none : AreSeen g at size number c (unread_flags located seen.flags.form_fault)
    seen_none = record {
      letters = refl;
      located = (
        λ is.
            let there = yes is in
            let found = look.located.0 there.0 in
            (found.0, found.1, subst (IsLong number at) (sized found.0 found.1) there.1),
        λ (master, is, long). no (look.located.1 (master, is)) (subst (IsLong number at) (sym (sized master is)) long),
      );
      formed = look.formed;
      bodies = (λ fault. absurd (cc (fault)), λ (h, is, long, never). absurd (none h ((look.head h).1 is) long));
    }

-- The first place of a slice without a head.
module _ (g : Geometry) (site : Site) (line : SliceLine) (content : Contents) (one_of : Contains site.lines line) (long : 17 ≤ line.at.blocks) where
  abbrev first_place : PlaceAt
  first_place = first_at line (most_on line)

  pub first_is_other : (seen : Seen) → IsSeenThere first_place (size_on site line) (content line.at.drive.0) seen → seen.head ≡ None → IsOtherIn g site content (first_of line seen.flags)
  first_is_other seen is headless =
      let none = subst (IsHeadThere first_place (size_on site line) (content line.at.drive.0)) headless is.there in
      record {
        one_of = one_of;
        at = first_place;
        comes = inl (refl, refl);
        start = refl;
        letters = inr (
          omega (arith, long),
          subst (AreSeen g first_place (size_on site line) 0 (content line.at.drive.0)) (sym is.look.letters)
              (seen_none g first_place (size_on site line) 0 (content line.at.drive.0) seen is.look (λ head some its. absurd (cc (some, headless))) seen.flags.located (λ is. (is, inl refl)) (λ is its. is)),
        );
        never = λ r same numbered there. none_headless g site content line none r same there;
      }

-- The place of a replica's number.
module _ (g : Geometry) (site : Site) (r : Replica) (content : Contents) where
  abbrev own : ℕ → List ℕ
  own = content r.line.at.drive.0

  -- one behind the first
  module _ (some : 0 < r.number) (one_of : Contains site.lines r.line) (numbered : r.number < r.first.count) (ahead : IsAhead g site r.line r.first r.number own)
      (never : (s : Replica) → s.line ≡ r.line → s.number ≡ r.number → IsFoundIn g site content s → ⊥) where
    reached : IsReached g site r.line r.first r.number own
    reached = record { ahead = ahead; behind = some; numbered = numbered }

    pub later_is_other : (flags : Flags) → AreLetters g site r.line r.number own (at_of r) flags → IsOtherIn g site content (other_of r flags)
    later_is_other flags letters = record { one_of = one_of; at = at_of r; comes = inr (r.first, reached, refl); start = refl; letters = letters; never = never }

  -- it has a head
  module _ (seated : IsSeated site r) (is : IsHead (at_of r) (size_on site r.line) own r.head) (ahead : IsAhead g site r.line r.first r.number own) (fault : Bool)
      (unfit : fault ≡ true → BothFit g (at_of r) r.head own → ⊥) (fits : fault ≡ false → BothFit g (at_of r) r.head own) (never : (s : Replica) → s.line ≡ r.line → s.number ≡ r.number → IsFoundIn g site content s → ⊥) where
    abbrev long_at : PlaceAt → PlaceAt
    long_at at = with_blocks at r.head.master.blocks

    letters_there : (at : PlaceAt) → IsHead at (size_on site r.line) own r.head → (at_of r).first ≡ at.first → IsLong r.number at r.head.master.blocks → AreSeen g at (size_on site r.line) r.number own (headed_flags fault)
    letters_there at head same long = seen_head g at (size_on site r.line) r.number own r.head head long fault
        (λ bad both. unfit bad (both_there g (long_at at) (at_of r) own (sym same) seated.length r.head both))
        (λ good. both_there g (at_of r) (long_at at) own same (sym seated.length) r.head (fits good))

    first_head_is : r.number ≡ 0 → IsHead (first_at r.line (most_on r.line)) (size_on site r.line) own r.head
    first_head_is zero =
        let within = seated.within in
        let length = seated.length in
        let most = is.lies.most in
        head_first r.line (size_on site r.line) own r.head r.first.blocks r.first.count (most_on r.line)
        (subst (λ (n : ℕ). IsHead (place_on r.line r.first.blocks r.first.count n) (size_on site r.line) own r.head) zero is) (omega (arith, within, length, most))

    pub headed_is_other : IsOtherIn g site content (other_of r (headed_flags fault))
    headed_is_other = elim (cases_lt 0 r.number) [
      | inr none ↦
          let zero : r.number ≡ 0 = omega (arith, none) in
          let product : r.number * r.first.blocks ≡ 0 = ap (λ (n : ℕ). n * r.first.blocks) zero ∙ omega arith in
          let within = seated.within in
          record {
            one_of = seated.one_of;
            at = first_at r.line (most_on r.line);
            comes = inl (zero, refl);
            start = omega (arith, product);
            letters = inr (omega (arith, within, is.lies.least, seated.length), letters_there (first_at r.line (most_on r.line)) (first_head_is zero) (omega (arith, product)) (inl zero));
            never = never;
          }
      | inl some ↦
          let within = seated.within in
          let numbered : r.number < r.first.count = elim seated.numbered [ inl zero ↦ absurd (omega (arith, zero, some)) | inr less ↦ less ] in
          later_is_other some seated.one_of numbered ahead never (headed_flags fault)
          (inr (omega (arith, within), letters_there (at_of r) is refl (inr seated.length)))
    ]
