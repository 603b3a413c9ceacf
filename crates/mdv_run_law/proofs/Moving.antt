-- What is found on a site, whichever key it has, where blocks changed at some of its replicas alone.
use Rattle.std.proofs.Common.{◌≡◌, ◌⊎◌, inl, inr, ℕ, ◌+◌, ◌-◌, ◌*◌, ◌<◌, ◌≤◌, Bool, true, false, List, Contains, refl, sym, ◌∙◌, ap, subst, arith}
use Rattle.std.specs.List.{list_any}
use Rattle.std.proofs.lemmas.Bool.{cases_Bool, cases_lt, false_from_ne_true, false≢true}
use Rattle.std.proofs.lemmas.List.Folds.{Any-from_list_any, list_any_at}
use Rattle.mdv_replica.proofs.Heads.{one_head}
use Rattle.mdv_shelf.specs.Area.{Area, range}
use Rattle.mdv_shelf.specs.Everywhere.{Image}
use Rattle.mdv_shown.specs.Below.{First, Second, Head, IsBelow, IsHead, IsMasterAt, Mark, Master, Open, PlaceAt, SliceLine, Slot, gate_of, slot_blocks, body_at, other_slot}
use Rattle.mdv_name.specs.declared.geometry.Geometry.{Geometry}
use Rattle.mdv_encoding.specs.Parsing.{read_of}
use Rattle.mdv_store.specs.Records.{Spells}
use Rattle.mdv_plan.specs.declared.table.Table.{Table}
use Rattle.mdv_survey.specs.declared.replica.Replica.{Replica}
use Rattle.mdv_shown.specs.Found.{IsFound, IsInChain}
use Rattle.mdv_shown.specs.Shown.{IsNewestOf, SlotShows}
use Rattle.mdv_shown.specs.Site.{IsSite, line_area, place_on, site_area, size_on}
use Rattle.mdv_shown.specs.declared.site.Site.{Site}
use Rattle.mdv_shown.proofs.Elsewhere.{chain_kept, in_range, one_master, places_step, range_has}
use Rattle.mdv_shown.proofs.Slots.{reads_one, shows_kept, shows_one, slot_cases}

-- the blocks of a replica, and of some
abbrev pub area_at : Replica → Area
area_at r = range r.line.at.drive.0 (r.line.at.start + (16 + r.number * r.first.blocks)) r.first.blocks

abbrev pub areas : List Replica → Area
areas rs drive block = list_any (λ (r : Replica). area_at r drive block) rs

abbrev pub place_at : Replica → PlaceAt
place_at r = place_on r.line r.first.blocks r.first.count r.number

-- a list has an item that passes, or all fail
pub any_of : {X : Type 0} (p : X → Bool) (xs : List X) → list_any p xs ≡ true → (x : X) × Contains xs x × (p x ≡ true)
any_of p xs is = (let found = Any-from_list_any p xs is in (found.1, (found.0, found.2, found.3), found.4))

pub any_has : {X : Type 0} (p : X → Bool) (xs : List X) (x : X) → Contains xs x → p x ≡ true → list_any p xs ≡ true
any_has p xs x has is = list_any_at p xs has.0 x has.1 (ap p has.2 ∙ is)

is_in : (rs : List Replica) (r s : Replica) → r ≡ s → Contains rs s → Contains rs r
is_in rs r s same has = subst (Contains rs) (sym same) has

-- no slot has a greater mark than this one
pub record IsTop (head : Head) (slot : Slot) (mark : Mark) : Type 0 where
  pub bytes : ℕ
  pub gate : gate_of head slot ≡ Open mark bytes
  pub above : (other : Slot) (m : Mark) (n : ℕ) → gate_of head other ≡ Open m n → IsBelow mark m → ⊥

module _ {T : Type 0} (Tells : List ℕ → T → Type 0) (one : (text : List ℕ) (s t : T) → Tells text s → Tells text t → s ≡ t) (site : Site) (ok : IsSite site) where
  -- the replica is found, of whichever key
  pub record IsHere (image : Image) (r : Replica) : Type 0 where
    pub one_of : Contains site.lines r.line
    pub located : IsMasterAt (place_on r.line 8192 0 0) (size_on site r.line) (image r.line.at.drive.0 (r.line.at.start + 16)) r.first
    pub numbered : (r.number ≡ 0) ⊎ (r.number < r.first.count)
    pub within : 16 + r.number * r.first.blocks + r.first.blocks ≤ r.line.at.blocks
    pub before : (j : ℕ) → j < r.number → (h : Head) × IsInChain Tells site r.line j (image r.line.at.drive.0) r.first h
    pub here : IsInChain Tells site r.line r.number (image r.line.at.drive.0) r.first r.head

  pub here_of : (image : Image) (r : Replica) → IsFound Tells site r.line r.number (image r.line.at.drive.0) r.first r.head → IsHere image r
  here_of image r is = record { one_of = is.one_of; located = is.located; numbered = is.numbered; within = is.within; before = is.before; here = is.here }

  pub found_of : (image : Image) (r : Replica) → IsHere image r → r.head.master.key ≡ site.key → IsFound Tells site r.line r.number (image r.line.at.drive.0) r.first r.head
  found_of image r is key = record { one_of = is.one_of; located = is.located; numbered = is.numbered; within = is.within; before = is.before; here = is.here; of_key = key }

  -- one before it on its slice
  abbrev pub at_number : Replica → ℕ → Head → Replica
  at_number r j head = record { line = r.line; number = j; first = r.first; head = head }

  earlier : (image : Image) (r : Replica) → IsHere image r → (j : ℕ) → j < r.number → (h : Head) × IsHere image (at_number r j h)
  earlier image r is j less =
      let chain = is.before j less in
      let within = is.within in (
        chain.0,
        record {
          one_of = is.one_of;
          located = is.located;
          numbered = elim is.numbered [ inl none ↦ absurd (omega (arith, none, less)) | inr few ↦ inr (omega (arith, few, less)) ];
          within = omega (arith, within, places_step j r.number r.first.blocks less);
          before = λ i down. is.before i (omega (arith, down, less));
          here = chain.1;
        },
      )

  -- lines that share a block are one
  one_line : (image other : Image) (r s : Replica) → IsHere image r → IsHere other s → (drive block : ℕ) → line_area r.line drive block ≡ true → line_area s.line drive block ≡ true → r.line ≡ s.line
  one_line image other r s is has drive block in_one in_other = elim (ok.apart r.line s.line is.one_of has.one_of) [
    | inl same ↦ same
    | inr apart ↦ absurd (apart drive block in_one in_other)
  ]

  place_in_line : (image : Image) (r : Replica) → IsHere image r → (drive block : ℕ) → area_at r drive block ≡ true → line_area r.line drive block ≡ true
  place_in_line image r is drive block in_place =
      let at = in_range r.line.at.drive.0 (r.line.at.start + (16 + r.number * r.first.blocks)) r.first.blocks drive block in_place in
      let within = is.within in
      subst (λ (d : ℕ). range r.line.at.drive.0 r.line.at.start r.line.at.blocks d block ≡ true) at.0 (range_has r.line.at.drive.0 r.line.at.start r.line.at.blocks block (omega (arith, at.1)) (omega (arith, at.2, within)))

  -- on one slice all are found under one first master
  same_first : (image : Image) (r s : Replica) → IsHere image r → IsHere image s → r.line ≡ s.line → r.first ≡ s.first
  same_first image r s is has lines =
      one_master r.line (size_on site r.line) (image r.line.at.drive.0 (r.line.at.start + 16)) r.first s.first is.located
      (subst (λ (l : SliceLine). IsMasterAt (place_on l 8192 0 0) (size_on site l) (image l.at.drive.0 (l.at.start + 16)) s.first) (sym lines) has.located)

  same_number : (b i j block : ℕ) → (start : ℕ) → start + (16 + i * b) ≤ block → block < start + (16 + i * b) + b → start + (16 + j * b) ≤ block → block < start + (16 + j * b) + b → i ≡ j
  same_number b i j block start from to also till = elim (cases_lt i j) [
    | inl less ↦ absurd (omega (arith, places_step i j b less, to, also))
    | inr most ↦ elim (cases_lt j i) [ inl less ↦ absurd (omega (arith, places_step j i b less, till, from)) | inr both ↦ omega (arith, most, both) ]
  ]

  -- two that share a block lie at one place
  pub record AreOne (r s : Replica) : Type 0 where
    pub line : r.line ≡ s.line
    pub first : r.first ≡ s.first
    pub number : r.number ≡ s.number

  meets : (image : Image) (r s : Replica) → IsHere image r → IsHere image s → (drive block : ℕ) → area_at r drive block ≡ true → area_at s drive block ≡ true → AreOne r s
  meets image r s is has drive block in_one in_other =
      let lines = one_line image image r s is has drive block (place_in_line image r is drive block in_one) (place_in_line image s has drive block in_other) in
      let firsts = same_first image r s is has lines in
      let at = in_range r.line.at.drive.0 (r.line.at.start + (16 + r.number * r.first.blocks)) r.first.blocks drive block in_one in
      let too = in_range s.line.at.drive.0 (s.line.at.start + (16 + s.number * s.first.blocks)) s.first.blocks drive block in_other in
      let starts : r.line.at.start ≡ s.line.at.start = ap (λ (l : SliceLine). l.at.start) lines in
      let blocks : r.first.blocks ≡ s.first.blocks = ap (λ (m : Master). m.blocks) firsts in
      let there : (r.line.at.start + (16 + s.number * r.first.blocks) ≤ block) × (block < r.line.at.start + (16 + s.number * r.first.blocks) + r.first.blocks) =
      subst (λ (n : ℕ). (n + (16 + s.number * r.first.blocks) ≤ block) × (block < n + (16 + s.number * r.first.blocks) + r.first.blocks)) (sym starts)
      (subst (λ (b : ℕ). (s.line.at.start + (16 + s.number * b) ≤ block) × (block < s.line.at.start + (16 + s.number * b) + b)) (sym blocks) (too.1, too.2)) in
      record { line = lines; first = firsts; number = same_number r.first.blocks r.number s.number block r.line.at.start at.1 at.2 there.0 there.1 }

  one_through : (r s n : Replica) → r.line ≡ s.line → r.first ≡ s.first → AreOne (at_number s r.number s.head) n → AreOne r n
  one_through r s n lines firsts one = record { line = lines ∙ one.line; first = firsts ∙ one.first; number = one.number }

  area_same : (r s : Replica) → AreOne r s → (drive block : ℕ) → area_at r drive block ≡ true → area_at s drive block ≡ true
  area_same r s same drive block is =
      subst (λ (n : ℕ). range s.line.at.drive.0 (s.line.at.start + (16 + n * s.first.blocks)) s.first.blocks drive block ≡ true) same.number
      (subst (λ (m : Master). range s.line.at.drive.0 (s.line.at.start + (16 + r.number * m.blocks)) m.blocks drive block ≡ true) same.first
      (subst (λ (l : SliceLine). range l.at.drive.0 (l.at.start + (16 + r.number * r.first.blocks)) r.first.blocks drive block ≡ true) same.line is))

  -- what is found at one place is one replica
  one_here : (image : Image) (r s : Replica) → IsHere image r → IsHere image s → AreOne r s → r ≡ s
  one_here image r s is has same =
      let heads : r.head ≡ s.head =
      by r.line r.first r.number is.here.readable.of_head
      (subst (λ (l : SliceLine). Spelled l r.first r.number s.head) (sym same.line)
      (subst (λ (m : Master). Spelled s.line m r.number s.head) (sym same.first)
      (subst (λ (n : ℕ). Spelled s.line s.first n s.head) (sym same.number) has.here.readable.of_head))) in
      λ i. record { line = same.line i; number = same.number i; first = same.first i; head = heads i }
    where
      Spelled : SliceLine → Master → ℕ → Head → Type 0
      Spelled line first k head = IsHead (place_on line first.blocks first.count k) (size_on site line) (image line.at.drive.0) head

      by : (line : SliceLine) (first : Master) (k : ℕ) → Spelled line first k r.head → Spelled line first k s.head → r.head ≡ s.head
      by line first k a b = one_head (place_on line first.blocks first.count k) (size_on site line) _ _ _ _ r.head s.head a b

  -- one that is found rests on the blocks from its slice's first place to its own
  here_kept : (old new : Image) (r : Replica) → ((block : ℕ) → r.line.at.start + 16 ≤ block → block < r.line.at.start + (16 + r.number * r.first.blocks) + r.first.blocks → new r.line.at.drive.0 block ≡ old r.line.at.drive.0 block) → IsHere old r → IsHere new r
  here_kept old new r same is =
      let least = is.located.lies.least in
      let kept : (j : ℕ) (h : Head) → j * r.first.blocks ≤ r.number * r.first.blocks → IsInChain Tells site r.line j (old r.line.at.drive.0) r.first h → IsInChain Tells site r.line j (new r.line.at.drive.0) r.first h
      = λ j h up. chain_kept Tells site r.line (old r.line.at.drive.0) (new r.line.at.drive.0) r.first h j (λ block from to. same block (omega (arith, from)) (omega (arith, to, up))) in
      record {
        one_of = is.one_of;
        located = record { form = is.located.form; spelled = same (r.line.at.start + 16) (omega arith) (omega (arith, least)) ∙ is.located.spelled; lies = is.located.lies };
        numbered = is.numbered;
        within = is.within;
        before = λ j less. (let chain = is.before j less in (chain.0, kept j chain.0 (omega (arith, places_step j r.number r.first.blocks less)) chain.1));
        here = kept r.number r.head (omega arith) is.here;
      }

  -- its own blocks are as they were
  abbrev pub IsSameAt : Image → Image → Replica → Type 0
  IsSameAt old new r = (block : ℕ) → r.line.at.start + (16 + r.number * r.first.blocks) ≤ block → block < r.line.at.start + (16 + r.number * r.first.blocks) + r.first.blocks → new r.line.at.drive.0 block ≡ old r.line.at.drive.0 block

  abbrev first_block : Replica → ℕ
  first_block r = r.line.at.start + (16 + r.number * r.first.blocks)

  in_own : (image : Image) (r : Replica) → IsHere image r → (block : ℕ) → first_block r ≤ block → block < first_block r + r.first.blocks → area_at r r.line.at.drive.0 block ≡ true
  in_own image r is block from to = range_has r.line.at.drive.0 (first_block r) r.first.blocks block from to

  -- it is none of these
  abbrev pub IsAway : List Replica → Replica → Type 0
  IsAway rs r = areas rs r.line.at.drive.0 (first_block r) ≡ false

  -- where these are found, whatever their heads say
  abbrev pub AreHere : Image → List Replica → Type 0
  AreHere image rs = (s : Replica) → Contains rs s → (h : Head) × IsHere image (at_number s s.number h)

  -- Blocks changed at some replicas alone, which are found before and behind.
  module _ (old new : Image) (rs : List Replica) (same : (drive block : ℕ) → areas rs drive block ≡ false → new drive block ≡ old drive block) (before : AreHere old rs) (behind : AreHere new rs) where
    -- of two that share a block both lie at one place
    at_one : (image : Image) → AreHere image rs → (r : Replica) → IsHere image r → (drive block : ℕ) → area_at r drive block ≡ true → areas rs drive block ≡ true → (s : Replica) × Contains rs s × AreOne r s
    at_one image here r is drive block own hit =
        let found = any_of (λ (x : Replica). area_at x drive block) rs hit in
        let there = here found.0 found.1 in
        let both = meets image r (at_number found.0 found.0.number there.0) is there.1 drive block own found.2 in
        (found.0, found.1, record { line = both.line; first = both.first; number = both.number })

    -- all of a place is
    away : (image : Image) → AreHere image rs → (r : Replica) → IsHere image r → IsAway rs r → IsSameAt old new r
    away image here r is out block from to = same r.line.at.drive.0 block (false_from_ne_true (areas rs r.line.at.drive.0 block) (λ hit.
        let one = at_one image here r is r.line.at.drive.0 block (in_own image r is block from to) hit in
        let least = is.located.lies.least in
        let first = in_own image r is (first_block r) (omega arith) (omega (arith, least)) in
        false≢true (sym out ∙ any_has (λ (x : Replica). area_at x r.line.at.drive.0 (first_block r)) rs one.0 one.1 (area_same r one.0 one.2 r.line.at.drive.0 (first_block r) first))))

    -- each place that is found before is readable behind, and the first one tells the same
    record Stands (r : Replica) : Type 0 where
      head : Head
      chain : IsInChain Tells site r.line r.number (new r.line.at.drive.0) r.first head
      located : r.number ≡ 0 → IsMasterAt (place_on r.line 8192 0 0) (size_on site r.line) (new r.line.at.drive.0 (r.line.at.start + 16)) r.first

    stands : (r : Replica) → IsHere old r → Stands r
    stands r is = elim (cases_Bool (areas rs r.line.at.drive.0 (first_block r))) [
      | inl hit ↦
          let least = is.located.lies.least in
          let one = at_one old before r is r.line.at.drive.0 (first_block r) (in_own old r is (first_block r) (omega arith) (omega (arith, least))) hit in
          moved r one.0 one.2 (behind one.0 one.1)
      | inr out ↦ record {
        head = r.head;
        chain = chain_kept Tells site r.line (old r.line.at.drive.0) (new r.line.at.drive.0) r.first r.head r.number (away old before r is out) is.here;
        located = λ none. record {
          form = is.located.form;
          spelled = (let least = is.located.lies.least in
              let here = away old before r is out in
              here (r.line.at.start + 16) (at_zero r.number none r.line.at.start r.first.blocks) (let e = at_zero r.number none r.line.at.start r.first.blocks in omega (arith, least))) ∙ is.located.spelled;
          lies = is.located.lies;
        };
      }
    ]
      where
        at_zero : (n : ℕ) → n ≡ 0 → (start b : ℕ) → start + (16 + n * b) ≤ start + 16
        at_zero n none start b = subst (λ (k : ℕ). start + (16 + k * b) ≤ start + 16) (sym none) (omega arith)

        moved : (r s : Replica) → AreOne r s → ((h : Head) × IsHere new (at_number s s.number h)) → Stands r
        moved r s same there =
            subst (λ (l : SliceLine). Stands (record { line = l; number = r.number; first = r.first; head = r.head })) (sym same.line)
            (subst (λ (m : Master). Stands (record { line = s.line; number = r.number; first = m; head = r.head })) (sym same.first)
            (subst (λ (n : ℕ). Stands (record { line = s.line; number = n; first = s.first; head = r.head })) (sym same.number)
            (record { head = there.0; chain = there.1.here; located = λ none. there.1.located })))

    -- so one that is none of them is found behind, with its blocks as they were
    pub moved_away : (r : Replica) → IsHere old r → IsAway rs r → IsHere new r × IsSameAt old new r
    moved_away r is out = (
      record {
        one_of = is.one_of;
        located = first_of (cases_lt 0 r.number);
        numbered = is.numbered;
        within = is.within;
        before = λ j less. (let one = earlier old r is j less in let at = stands (at_number r j one.0) one.1 in (at.head, at.chain));
        here = chain_kept Tells site r.line (old r.line.at.drive.0) (new r.line.at.drive.0) r.first r.head r.number (away old before r is out) is.here;
      },
      away old before r is out,
    )
      where
        first_of : (0 < r.number) ⊎ (r.number ≤ 0) → IsMasterAt (place_on r.line 8192 0 0) (size_on site r.line) (new r.line.at.drive.0 (r.line.at.start + 16)) r.first
        first_of (inl some) = (let one = earlier old r is 0 some in (stands (at_number r 0 one.0) one.1).located refl)
        first_of (inr none) = (stands r is).located (omega (arith, none))

  -- the newest table of each, under one mark
  abbrev pub AreShown : Image → List Replica → Mark → T → Type 0
  AreShown image rs mark table = (r : Replica) → Contains rs r → (slot : Slot) × IsNewestOf Tells (place_at r) (image r.line.at.drive.0) r.head slot mark table

  -- The same is found in both, with the same newest tables.
  pub record AreAlike (c d : Image) : Type 0 where
    pub there : (r : Replica) → IsHere c r → IsHere d r
    pub back : (r : Replica) → IsHere d r → IsHere c r
    pub tables : (r : Replica) (slot : Slot) (mark : Mark) (t u : T) → IsHere c r → IsTop r.head slot mark
        → SlotShows Tells (place_at r) (c r.line.at.drive.0) r.head slot mark t → SlotShows Tells (place_at r) (d r.line.at.drive.0) r.head slot mark u → t ≡ u

  pub alike_itself : (c : Image) → AreAlike c c
  alike_itself c = record {
    there = λ r is. is;
    back = λ r is. is;
    tables = λ r slot mark t u is top a b. (shows_one Tells one (place_at r) (c r.line.at.drive.0) r.head slot mark mark t u a b).1;
  }

  pub alike_back : (c d : Image) → AreAlike c d → AreAlike d c
  alike_back c d is = record {
    there = is.back;
    back = is.there;
    tables = λ r slot mark t u has top a b. sym (is.tables r slot mark u t (is.back r has) top b a);
  }

  -- a table at the top of a head is its newest one
  top_is_newest : (at : PlaceAt) (content : ℕ → List ℕ) (head : Head) (slot own : Slot) (mark its : Mark) (t table : T) → IsTop head slot mark → SlotShows Tells at content head slot mark t
      → IsNewestOf Tells at content head own its table → t ≡ table
  top_is_newest at content head slot own mark its t table top shows newest = elim (slot_cases own slot) [
    | inl same ↦ (shows_one Tells one at content head slot mark its t table shows (subst (λ (s : Slot). SlotShows Tells at content head s its table) same newest.shows)).1
    | inr other ↦ absurd (top.above own its newest.shows.bytes newest.shows.gate (newest.last mark t (subst (λ (s : Slot). SlotShows Tells at content head s mark t) other shows)))
  ]

  -- what a slot shows rests on the blocks of its place
  shows_there : (old new : Image) (r : Replica) → IsHere old r → IsSameAt old new r → (slot : Slot) (mark : Mark) (t : T) → SlotShows Tells (place_at r) (old r.line.at.drive.0) r.head slot mark t
      → SlotShows Tells (place_at r) (new r.line.at.drive.0) r.head slot mark t
  shows_there old new r is same slot mark t shows =
      shows_kept Tells (place_at r) (old r.line.at.drive.0) (new r.line.at.drive.0) r.head r.head slot mark t refl
      (λ block from to. (let within = in_place slot r.line.at.start r.number r.first.blocks block is.located.lies.least from to in same block within.0 within.1)) shows
    where
      in_place : (slot : Slot) (start k b block : ℕ) → 16 ≤ b → body_at (record { place = record { slice = r.line.name; start = 16 + k * b; blocks = b }; drive = r.line.at.drive; first = start + (16 + k * b); index = k; count = r.first.count }) slot ≤ block
          → block < body_at (record { place = record { slice = r.line.name; start = 16 + k * b; blocks = b }; drive = r.line.at.drive; first = start + (16 + k * b); index = k; count = r.first.count }) slot + slot_blocks b
          → (start + (16 + k * b) ≤ block) × (block < start + (16 + k * b) + b)
      in_place First start k b block least from to = (omega (arith, from), omega (arith, least, to))
      in_place Second start k b block least from to = (omega (arith, from), omega (arith, least, to))

  -- What of the replicas of an image was left as it was, where these were written, and found behind it.
  pub record IsChanged (Away : Replica → Type 0) (rs : List Replica) (old new : Image) : Type 0 where
    pub each : (r : Replica) → Contains rs r → IsHere new r
    pub from : (r : Replica) → IsHere new r → Contains rs r ⊎ (Away r × IsHere old r × IsSameAt old new r)
    pub to : (r : Replica) → Away r → IsHere old r → IsHere new r × IsSameAt old new r

  there_changed : (Away : Replica → Type 0) (rs : List Replica) (c d n m : Image) → AreAlike c d → IsChanged Away rs c n → IsChanged Away rs d m → (r : Replica) → IsHere n r → IsHere m r
  there_changed Away rs c d n m alike one other r is = elim (one.from r is) [
    | inl own ↦ other.each r own
    | inr left ↦ (other.to r left.0 (alike.there r left.1)).0
  ]

  -- one table is the newest one of each in both, under one mark
  abbrev pub ShowTheSame : Image → Image → List Replica → Type 0
  ShowTheSame n m rs = (r : Replica) → Contains rs r → (mark : Mark) × (table : T) × ((slot : Slot) × IsNewestOf Tells (place_at r) (n r.line.at.drive.0) r.head slot mark table) × ((slot : Slot) × IsNewestOf Tells (place_at r) (m r.line.at.drive.0) r.head slot mark table)

  -- so images that were alike are, where they show the same newest tables there
  pub alike_written : (Away : Replica → Type 0) (rs : List Replica) (c d n m : Image) → AreAlike c d → IsChanged Away rs c n → IsChanged Away rs d m → ShowTheSame n m rs → AreAlike n m
  alike_written Away rs c d n m alike one other shown = record {
    there = there_changed Away rs c d n m alike one other;
    back = there_changed Away rs d c m n (alike_back c d alike) other one;
    tables = λ r slot mine t u is top a b. elim (one.from r is) [
      | inl own ↦
          let both = shown r own in
          top_is_newest (place_at r) (n r.line.at.drive.0) r.head slot both.2.0 mine both.0 t both.1 top a both.2.1
          ∙ sym (top_is_newest (place_at r) (m r.line.at.drive.0) r.head slot both.3.0 mine both.0 u both.1 top b both.3.1)
      | inr left ↦
          let there = alike.there r left.1 in
          let moved = other.to r left.0 there in
          alike.tables r slot mine t u left.1 top
          (shows_there n c r is (λ block from to. sym (left.2 block from to)) slot mine t a)
          (shows_there m d r moved.0 (λ block from to. sym (moved.1 block from to)) slot mine u b)
    ];
  }

  pub alike_changed : (Away : Replica → Type 0) (rs : List Replica) (c d n m : Image) (mark : Mark) (table : T) → AreAlike c d → IsChanged Away rs c n → IsChanged Away rs d m → AreShown n rs mark table → AreShown m rs mark table → AreAlike n m
  alike_changed Away rs c d n m mark table alike one other shown also = alike_written Away rs c d n m alike one other (λ r has. (mark, table, shown r has, also r has))

  -- images that stay as they were on the site's slices
  in_site : (image : Image) (r : Replica) → IsHere image r → (block : ℕ) → r.line.at.start + 16 ≤ block → block < r.line.at.start + (16 + r.number * r.first.blocks) + r.first.blocks → site_area site r.line.at.drive.0 block ≡ true
  in_site image r is block from to =
      let within = is.within in
      any_has (λ (line : SliceLine). range line.at.drive.0 (line.at.start + 16) (line.at.blocks - 16) r.line.at.drive.0 block) site.lines r.line is.one_of
      (range_has r.line.at.drive.0 (r.line.at.start + 16) (r.line.at.blocks - 16) block from (omega (arith, to, within)))

  pub here_beside : (old new : Image) → ((drive block : ℕ) → site_area site drive block ≡ true → new drive block ≡ old drive block) → (r : Replica) → IsHere old r → IsHere new r
  here_beside old new same r is = here_kept old new r (λ block from to. same r.line.at.drive.0 block (in_site old r is block from to)) is

  own_beside : (old new : Image) → ((drive block : ℕ) → site_area site drive block ≡ true → new drive block ≡ old drive block) → (r : Replica) → IsHere old r → IsSameAt old new r
  own_beside old new same r is block from to = same r.line.at.drive.0 block (in_site old r is block (omega (arith, from)) to)

  -- so its newest table is
  pub newest_beside : (old new : Image) → ((drive block : ℕ) → site_area site drive block ≡ true → new drive block ≡ old drive block) → (r : Replica) → IsHere old r → (slot : Slot) (mark : Mark) (table : T)
      → IsNewestOf Tells (place_at r) (old r.line.at.drive.0) r.head slot mark table → IsNewestOf Tells (place_at r) (new r.line.at.drive.0) r.head slot mark table
  newest_beside old new same r is slot mark table newest = record {
    shows = shows_there old new r is (own_beside old new same r is) slot mark table newest.shows;
    last = λ other t shows. newest.last other t
        (shows_there new old r (here_beside old new same r is) (λ block from to. sym (own_beside old new same r is block from to)) (other_slot slot) other t shows);
  }

  pub alike_beside : (c d n m : Image) → ((drive block : ℕ) → site_area site drive block ≡ true → n drive block ≡ c drive block) → ((drive block : ℕ) → site_area site drive block ≡ true → m drive block ≡ d drive block) → AreAlike c d → AreAlike n m
  alike_beside c d n m one other alike = record {
    there = λ r is. here_beside d m other r (alike.there r (here_beside n c (λ drive block within. sym (one drive block within)) r is));
    back = λ r is. here_beside c n one r (alike.back r (here_beside m d (λ drive block within. sym (other drive block within)) r is));
    tables = λ r slot mark t u is top a b.
        let was = here_beside n c (λ drive block within. sym (one drive block within)) r is in
        let there = here_beside d m other r (alike.there r was) in
        alike.tables r slot mark t u was top
        (shows_there n c r is (own_beside n c (λ drive block within. sym (one drive block within)) r is) slot mark t a)
        (shows_there m d r there (own_beside m d (λ drive block within. sym (other drive block within)) r there) slot mark u b);
  }

  -- what is found lies on the site's slices
  pub areas_in_site : (image : Image) (rs : List Replica) → ((r : Replica) → Contains rs r → IsHere image r) → (drive block : ℕ) → site_area site drive block ≡ false → areas rs drive block ≡ false
  areas_in_site image rs each drive block out = false_from_ne_true (areas rs drive block) (λ hit.
      let found = any_of (λ (r : Replica). area_at r drive block) rs hit in
      let at = in_range found.0.line.at.drive.0 (first_block found.0) found.0.first.blocks drive block found.2 in
      let within = in_site image found.0 (each found.0 found.1) block (omega (arith, at.1)) at.2 in
      false≢true (sym out ∙ subst (λ (d : ℕ). site_area site d block ≡ true) at.0 within))

  -- Replicas that were found were written.
  pub changed_written : (rs : List Replica) (old new : Image) → ((drive block : ℕ) → areas rs drive block ≡ false → new drive block ≡ old drive block) → AreHere old rs → ((r : Replica) → Contains rs r → IsHere new r) → IsChanged (IsAway rs) rs old new
  changed_written rs old new same before each = record {
    each = each;
    from = λ r is. elim (cases_Bool (areas rs r.line.at.drive.0 (first_block r))) [
      | inl hit ↦
          let least = is.located.lies.least in
          let found = any_of (λ (x : Replica). area_at x r.line.at.drive.0 (first_block r)) rs hit in
          let both = meets new r found.0 is (each found.0 found.1) r.line.at.drive.0 (first_block r) (in_own new r is (first_block r) (omega arith) (omega (arith, least))) found.2 in
          inl (is_in rs r found.0 (one_here new r found.0 is (each found.0 found.1) both) found.1)
      | inr out ↦
          let moved = moved_away new old rs (λ drive block beside. sym (same drive block beside)) behind before r is out in
          inr (out, moved.0, λ block from to. sym (moved.1 block from to))
    ];
    to = λ r out is. moved_away old new rs same before behind r is out;
  }
    where
      behind : AreHere new rs
      behind r has = (r.head, each r has)

  -- where the first of them lies on a slice
  abbrev line_block : Replica → ℕ
  line_block r = r.line.at.start + 16

  -- no replica was written on its slice
  abbrev pub IsClear : List Replica → Replica → Type 0
  IsClear rs r = areas rs r.line.at.drive.0 (line_block r) ≡ false

  -- Slices were written whole: each place that their first masters tell.
  module _ (rs : List Replica) (old new : Image) (same : (drive block : ℕ) → areas rs drive block ≡ false → new drive block ≡ old drive block) (each : (r : Replica) → Contains rs r → IsHere new r)
      (whole : (s : Replica) → Contains rs s → (k : ℕ) → (k ≡ 0) ⊎ (k < s.first.count) → (n : Replica) × Contains rs n × AreOne (at_number s k s.head) n) where
    line_has : (image : Image) (r : Replica) → IsHere image r → (block : ℕ) → line_block r ≤ block → block < first_block r + r.first.blocks → line_area r.line r.line.at.drive.0 block ≡ true
    line_has image r is block from to = (let within = is.within in range_has r.line.at.drive.0 r.line.at.start r.line.at.blocks block (omega (arith, from)) (omega (arith, to, within)))

    hit_line : (image : Image) (r : Replica) → IsHere image r → (block : ℕ) → line_block r ≤ block → block < first_block r + r.first.blocks → areas rs r.line.at.drive.0 block ≡ true → (s : Replica) × Contains rs s × (r.line ≡ s.line)
    hit_line image r is block from to hit =
        let found = any_of (λ (x : Replica). area_at x r.line.at.drive.0 block) rs hit in
        (found.0, found.1, one_line image new r found.0 is (each found.0 found.1) r.line.at.drive.0 block (line_has image r is block from to) (place_in_line new found.0 (each found.0 found.1) r.line.at.drive.0 block found.2))

    -- on a slice that is clear nothing was written
    clear_line : (image : Image) (r : Replica) → IsHere image r → IsClear rs r → (block : ℕ) → line_block r ≤ block → block < first_block r + r.first.blocks → areas rs r.line.at.drive.0 block ≡ false
    clear_line image r is out block from to = false_from_ne_true (areas rs r.line.at.drive.0 block) (λ hit.
        let line = hit_line image r is block from to hit in
        let zero = whole line.0 line.1 0 (inl refl) in
        let least = (each zero.0 zero.1).located.lies.least in
        let first = range_has zero.0.line.at.drive.0 (zero.0.line.at.start + (16 + 0 * zero.0.first.blocks)) zero.0.first.blocks (zero.0.line.at.start + 16) (omega arith) (omega (arith, least)) in
        let there : area_at zero.0 zero.0.line.at.drive.0 (zero.0.line.at.start + 16) ≡ true =
        subst (λ (n : ℕ). range zero.0.line.at.drive.0 (zero.0.line.at.start + (16 + n * zero.0.first.blocks)) zero.0.first.blocks zero.0.line.at.drive.0 (zero.0.line.at.start + 16) ≡ true) zero.2.number first in
        let here : area_at zero.0 r.line.at.drive.0 (line_block r) ≡ true =
        subst (λ (l : SliceLine). area_at zero.0 l.at.drive.0 (l.at.start + 16) ≡ true) (sym (line.2 ∙ zero.2.line)) there in
        false≢true (sym out ∙ any_has (λ (x : Replica). area_at x r.line.at.drive.0 (line_block r)) rs zero.0 zero.1 here))

    pub changed_made : IsChanged (IsClear rs) rs old new
    changed_made = record {
      each = each;
      from = λ r is. elim (cases_Bool (areas rs r.line.at.drive.0 (line_block r))) [
        | inl hit ↦
            let least = is.located.lies.least in
            let line = hit_line new r is (line_block r) (omega arith) (omega (arith, least)) hit in
            let firsts = same_first new r line.0 is (each line.0 line.1) line.2 in
            let numbered = subst (λ (m : Master). (r.number ≡ 0) ⊎ (r.number < m.count)) firsts is.numbered in
            let one = whole line.0 line.1 r.number numbered in
            let both = one_through r line.0 one.0 line.2 firsts one.2 in
            inl (is_in rs r one.0 (one_here new r one.0 is (each one.0 one.1) both) one.1)
        | inr out ↦
            let kept = λ (block : ℕ) (from : line_block r ≤ block) (to : block < first_block r + r.first.blocks). sym (same r.line.at.drive.0 block (clear_line new r is out block from to)) in
            inr (out, here_kept new old r kept is, λ block from to. sym (kept block (omega (arith, from)) to))
      ];
      to = λ r out is.
          let kept = λ (block : ℕ) (from : line_block r ≤ block) (to : block < first_block r + r.first.blocks). same r.line.at.drive.0 block (clear_line old r is out block from to) in
          (here_kept old new r kept is, λ block from to. kept block (omega (arith, from)) to);
    }

-- Of a table of drives: a text is the record of one table.
pub one_text : (g : Geometry) (text : List ℕ) (s t : Table) → Spells g text s → Spells g text t → s ≡ t
one_text g = reads_one (read_of g)

-- images in which a boot that looks at the site finds the same
abbrev pub IsAlike : (g : Geometry) (site : Site) → IsSite site → Image → Image → Type 0
IsAlike g site ok c d = AreAlike (Spells g) (one_text g) site ok c d

abbrev pub IsThere : (g : Geometry) (site : Site) → IsSite site → Image → Replica → Type 0
IsThere g site ok image r = IsHere (Spells g) (one_text g) site ok image r
