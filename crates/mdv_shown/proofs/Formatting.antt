-- A place is formatted: the first of its slice, and a later one.
use Rattle.std.proofs.Common.{◌≡◌, ◌⊎◌, inl, inr, ℕ, ◌+◌, ◌-◌, ◌*◌, ◌<◌, ◌≤◌, Bool, true, false, not, refl, sym, ◌∙◌, ap, subst, List, [], ◌∷◌, Option, None, Some, arith}
use Rattle.std.proofs.lemmas.Bool.{cases_Bool, cases_lt, cases_eq, false≢true, false_from_ne_true, or_cases, or_left, or_right, cond-true, cond-false, not_from_false}
use Rattle.std.specs.Prelude.{Contains, filter, max}
use Rattle.mdv_shown.specs.Below.{Identity, Key, SliceLine, IsMasterAt, Master, Head, Slot, First, Second, Closed, gate_of, Image, SameOutside, MayFormat, Formats, untouched, blanked, formatted, block_of, formatted_head, range, place_at, put_at, Spot, SpotState}
use Rattle.mdv_shown.specs.Below.{Core, Stage, Reading, Creating, Claiming, Writing, Ready, Formatted, Version, happens, after_all, AreApart, is_in, IsHead}
use Rattle.mdv_votes.specs.Family.{formatted as formatted_spot}
use Rattle.mdv_votes.specs.Spots.{same_spot}
use Rattle.mdv_votes.proofs.Meeting.{same_is}
use Rattle.mdv_quorum.specs.May.{may_format}
use Rattle.mdv_quorum.specs.World.{formatted_at, formatted_place, formatted_seat}
use Rattle.mdv_shelf.proofs.Frame.{before_range, behind_range}
use Rattle.mdv_replica.proofs.Heads.{no_blank_master, one_head}
use Rattle.mdv_replica.proofs.Showing.{no_head_blank, head_formatted}
use Rattle.mdv_shown.specs.Site.{Site, IsSite, size_on, place_on, spot_on, line_area}
use Rattle.mdv_shown.specs.Found.{IsInChain, IsFound, IsOwn}
use Rattle.mdv_shown.specs.Shown.{ShowsPlaces, Shows}
use Rattle.mdv_shown.specs.Laws.{Reads}
use Rattle.mdv_shown.specs.Wipes.{BlankSlicesRest, FirstIs, HasFirst, spots_from, spots_behind, wiped_all}
use Rattle.mdv_shown.specs.Formats.{OthersFormatsGo, IsFormat, IsFormattable, FirstFormatsGo, LaterFormatsGo, next_number, master_on, lost_with, lost_beside}
use Rattle.mdv_shown.proofs.Elsewhere.{IsThere, chain_kept, found_kept, one_master, places_step, range_has, there_of}
use Rattle.mdv_shown.proofs.Rewritten.{place_same}
use Rattle.mdv_shown.proofs.Framed.{shows_same}
use Rattle.mdv_shown.proofs.Wiped.{all_wiped, in_from, from_in, lines_spots, others_same, cut_shows, wipe_cuts}
use Rattle.mdv_shown.proofs.Formatted.{IsFormattedAt, formatted_shows}

some_same : {A : Type 0} (a b : A) → Some a ≡ Some b → a ≡ b
some_same a b e = cc

none_never : {A : Type 0} (a : A) → None ≡ Some a → ⊥
none_never a e = cc

-- what is left of a list by a test
filter_in : (test : Spot → Bool) (list : List Spot) (q : Spot) → is_in (filter test list) q ≡ true → is_in list q ≡ true
filter_in test [] q has = has
filter_in test (x ∷ xs) q has =
    elim (cases_Bool (test x)) [
      | inl stays ↦ elim (or_cases (same_spot x q) (is_in (filter test xs) q) (sym (ap (λ (l : List Spot). is_in l q) (cond-true (test x) (x ∷ filter test xs) (filter test xs) stays)) ∙ has)) [
        | inl is ↦ or_left (same_spot x q) (is_in xs q) is
        | inr more ↦ or_right (same_spot x q) (is_in xs q) (filter_in test xs q more)
      ]
      | inr goes ↦ or_right (same_spot x q) (is_in xs q) (filter_in test xs q (sym (ap (λ (l : List Spot). is_in l q) (cond-false (test x) (x ∷ filter test xs) (filter test xs) goes)) ∙ has))
    ]

in_filter : (test : Spot → Bool) (list : List Spot) (q : Spot) → is_in list q ≡ true → test q ≡ true → is_in (filter test list) q ≡ true
in_filter test [] q has passes = has
in_filter test (x ∷ xs) q has passes =
    elim (or_cases (same_spot x q) (is_in xs q) has) [
      | inl is ↦
          let stays : test x ≡ true = subst (λ (s : Spot). test s ≡ true) (sym (same_is x q is)) passes in
          ap (λ (l : List Spot). is_in l q) (cond-true (test x) (x ∷ filter test xs) (filter test xs) stays) ∙ or_left (same_spot x q) (is_in (filter test xs) q) is
      | inr more ↦
          let rest = in_filter test xs q more passes in
          elim (cases_Bool (test x)) [
            | inl stays ↦ ap (λ (l : List Spot). is_in l q) (cond-true (test x) (x ∷ filter test xs) (filter test xs) stays) ∙ or_right (same_spot x q) (is_in (filter test xs) q) rest
            | inr goes ↦ ap (λ (l : List Spot). is_in l q) (cond-false (test x) (x ∷ filter test xs) (filter test xs) goes) ∙ rest
          ]
    ]

both_shut : (head : Head) → head.first ≡ Closed → head.second ≡ Closed → (slot : Slot) → gate_of head slot ≡ Closed
both_shut head first second First = first
both_shut head first second Second = second

module _ {Table : Type 0} (Spells : List ℕ → Table → Type 0) (site : Site) (identity : Identity) (line : SliceLine) (blocks count number : ℕ) (before : Option Master) (old new : Image)
    (f : IsFormat site identity old line blocks count 0 number) (known : FirstIs site old line before)
    (formats : Formats (place_on line blocks count 0) (master_on site identity line blocks count 0) number old new) where
  abbrev master : Master
  master = master_on site identity line blocks count 0

  abbrev head : Head
  head = formatted_head (place_on line blocks count 0) site.key identity number

  abbrev d : ℕ
  d = line.at.drive.0

  spelled : IsHead (place_on line blocks count 0) (size_on site line) (new d) head
  spelled = head_formatted (place_on line blocks count 0) site.key identity number (size_on site line) old new f.form f.lies f.small formats

  here : line.at.start + (16 + 0 * blocks) ≡ line.at.start + 16
  here = omega arith

  pub own_first : IsOwn Spells site identity line 0 new master head
  own_first = record {
    found = record {
      one_of = f.one_of;
      located = record {
        form = f.form;
        spelled = ap (new d) (sym here) ∙ spelled.master_block;
        lies = record {
          slice = refl;
          start = omega arith;
          least = f.lies.least;
          most = f.lies.most;
          in_place = f.lies.most;
          within = (let h = f.lies.within in omega (arith, h));
        };
      };
      numbered = inl refl;
      within = f.within;
      before = λ j lt. absurd (omega (arith, lt));
      here = record { readable = record { of_head = spelled; of_first = tt; of_second = tt }; length = refl };
      of_key = refl;
    };
    of_identity = refl;
  }

  first_kept : (block : ℕ) → line.at.start + (16 + 0 * blocks) + 4 ≤ block → new d block ≡ old d block
  first_kept block up = formats.elsewhere d block (behind_range d (line.at.start + (16 + 0 * blocks)) 4 block up)

  -- those behind it are blank
  none_behind : (j : ℕ) (h : Head) → 0 < j → IsThere Spells site line j (new d) master h → ⊥
  none_behind j h some is =
      let told : j < count = elim is.numbered [ inl e ↦ absurd (omega (arith, e, some)) | inr lt ↦ lt ] in
      let step = places_step 0 j blocks some in
      let least = f.lies.least in
      let same = first_kept (line.at.start + (16 + j * blocks)) (omega (arith, step, least)) in
      no_head_blank (place_on line blocks count j) (size_on site line) (new d) (same ∙ f.behind j some told is.within) h is.here.readable.of_head

  pub first_now : (j : ℕ) (m : Master) (h : Head) → IsThere Spells site line j (new d) m h → ((j < 0) × (m ≡ master)) ⊎ ((j ≡ 0) × (m ≡ master) × (h ≡ head))
  first_now j m h is =
      let same = one_master line (size_on site line) (new d (line.at.start + 16)) m master is.located own_first.found.located in
      subst (λ (n : Master). IsThere Spells site line j (new d) n h → ((j < 0) × (n ≡ master)) ⊎ ((j ≡ 0) × (n ≡ master) × (h ≡ head))) (sym same)
      (λ mine. elim (cases_lt 0 j) [
        | inl some ↦ absurd (none_behind j h some mine)
        | inr none ↦
            let zeroth : j ≡ 0 = omega (arith, none) in
            let at = place_on line blocks count 0 in
            let its = subst (λ (i : ℕ). IsInChain Spells site line i (new d) master h) zeroth mine.here in
            inr (zeroth, refl, one_head at (size_on site line) (new d at.first) (new d (at.first + 1)) (new d (at.first + 2)) (new d (at.first + 3)) h head its.readable.of_head spelled)
      ])
      is

  zero_spot : (j b : ℕ) → j ≡ 0 → spot_on line b j ≡ spot_on line blocks 0
  zero_spot j b e = ap (λ (i : ℕ). spot_on line b i) e ∙ ap (λ (n : ℕ). record { drive = line.at.drive; first = line.at.start + n; mediator = false }) (zeros b)
    where
      zeros : (c : ℕ) → 16 + 0 * c ≡ 16 + 0 * blocks
      zeros c = omega arith

  first_was : (j : ℕ) (m : Master) (h : Head) → IsFound Spells site line j (old d) m h
      → ((j < 0) × (m ≡ master)) ⊎ ((spot_on line m.blocks j ≡ spot_on line blocks 0) ⊎ (is_in (lost_beside line before blocks count) (spot_on line m.blocks j) ≡ true))
  first_was j m h is = at before known
    where
      at : (o : Option Master) → FirstIs site old line o
          → ((j < 0) × (m ≡ master)) ⊎ ((spot_on line m.blocks j ≡ spot_on line blocks 0) ⊎ (is_in (lost_beside line o blocks count) (spot_on line m.blocks j) ≡ true))
      at None none = absurd (none m is.located)
      at (Some b) located =
          let same = one_master line (size_on site line) (old d (line.at.start + 16)) m b is.located located in
          elim (cases_lt 0 j) [
            | inr none ↦ inr (inl (zero_spot j m.blocks (omega (arith, none))))
            | inl some ↦
                let told : j < max 1 m.count = elim is.numbered [ inl e ↦ omega (arith, e) | inr lt ↦ omega (arith, lt) ] in
                let among : is_in (spots_behind line m 1) (spot_on line m.blocks j) ≡ true = from_in line m.blocks 1 (max 1 m.count - 1) j (omega (arith, some)) (omega (arith, told, some)) is.within in
                let fresh : is_in (spots_from line blocks 1 (count - 1)) (spot_on line m.blocks j) ≡ false =
                false_from_ne_true (is_in (spots_from line blocks 1 (count - 1)) (spot_on line m.blocks j)) (λ new_one.
                let n = in_from line blocks 1 (count - 1) (spot_on line m.blocks j) new_one in
                let from = n.from in
                let to = n.to in
                let firsts : line.at.start + (16 + n.number * blocks) ≡ line.at.start + (16 + j * m.blocks) = ap (λ (s : Spot). s.first) n.spot in
                let blank = f.behind n.number (omega (arith, from)) (omega (arith, from, to)) n.within in
                no_head_blank (place_on line m.blocks m.count j) (size_on site line) (old d) (ap (old d) (sym firsts) ∙ blank) h is.here.readable.of_head) in
                let lost : is_in (lost_beside line (Some m) blocks count) (spot_on line m.blocks j) ≡ true
                = in_filter (λ (q : Spot). not (is_in (spots_from line blocks 1 (count - 1)) q)) (spots_behind line m 1) (spot_on line m.blocks j) among
                (not_from_false (is_in (spots_from line blocks 1 (count - 1)) (spot_on line m.blocks j)) fresh) in
                inr (inr (subst (λ (n : Master). is_in (lost_beside line (Some n) blocks count) (spot_on line m.blocks j) ≡ true) same lost))
          ]

  first_gone : (o : Option Master) → FirstIs site old line o → (other : SliceLine) (j b : ℕ) → AreApart (line_area line) (line_area other) → 16 + j * b + b ≤ other.at.blocks → 16 ≤ b → is_in (lost_beside line o blocks count) (spot_on other b j) ≡ false
  first_gone None none other j b apart fits least = refl
  first_gone (Some m) located other j b apart fits least =
      false_from_ne_true (is_in (lost_beside line (Some m) blocks count) (spot_on other b j)) (λ has.
      let among = filter_in (λ (q : Spot). not (is_in (spots_from line blocks 1 (count - 1)) q)) (spots_behind line m 1) (spot_on other b j) has in
      let n = in_from line m.blocks 1 (max 1 m.count - 1) (spot_on other b j) among in
      lines_spots line other apart n.number m.blocks j b n.within located.lies.least fits least n.spot)

  pub first_formatted : IsFormattedAt Spells site identity line 0 master head (lost_beside line before blocks count) old new
  first_formatted = record {
    site_is = f.site_is;
    own = own_first;
    shut = both_shut head refl refl;
    others = λ other apart. others_same line other apart 0 blocks 4 old new (omega (arith, f.lies.least, f.within)) formats.elsewhere;
    front = λ block to. formats.elsewhere d block (before_range d (line.at.start + (16 + 0 * blocks)) 4 block to);
    now = λ j m h is. first_now j m h (there_of Spells site site.key line j (new d) m h is);
    was = first_was;
    gone_here = λ other j b apart fits least. first_gone before known other j b apart fits least;
    gone_behind = λ j lt. absurd (omega (arith, lt));
  }

-- a place behind others of that length
module _ {Table : Type 0} (Spells : List ℕ → Table → Type 0) (site : Site) (identity : Identity) (line : SliceLine) (k number : ℕ) (first : Master) (old new : Image) (some : 0 < k)
    (f : IsFormat site identity old line first.blocks first.count k number) (has : HasFirst site old line first)
    (formats : Formats (place_on line first.blocks first.count k) (master_on site identity line first.blocks first.count k) number old new) where
  abbrev later : Head
  later = formatted_head (place_on line first.blocks first.count k) site.key identity number

  abbrev e : ℕ
  e = line.at.drive.0

  later_spelled : IsHead (place_on line first.blocks first.count k) (size_on site line) (new e) later
  later_spelled = head_formatted (place_on line first.blocks first.count k) site.key identity number (size_on site line) old new f.form f.lies f.small formats

  step : 0 * first.blocks + first.blocks ≤ k * first.blocks
  step = places_step 0 k first.blocks some

  front_kept : (block : ℕ) → block < line.at.start + (16 + k * first.blocks) → new e block ≡ old e block
  front_kept block to = formats.elsewhere e block (before_range e (line.at.start + (16 + k * first.blocks)) 4 block to)

  later_kept : (block : ℕ) → line.at.start + (16 + k * first.blocks) + 4 ≤ block → new e block ≡ old e block
  later_kept block up = formats.elsewhere e block (behind_range e (line.at.start + (16 + k * first.blocks)) 4 block up)

  first_same : new e (line.at.start + 16) ≡ old e (line.at.start + 16)
  first_same = front_kept (line.at.start + 16) (let s = step in let l = f.lies.least in omega (arith, s, l))

  first_new : IsMasterAt (place_on line 8192 0 0) (size_on site line) (new e (line.at.start + 16)) first
  first_new = record { form = has.located.form; spelled = first_same ∙ has.located.spelled; lies = has.located.lies }

  -- those behind it are blank, in both images
  blank_old : (j : ℕ) → k < j → (j ≡ 0) ⊎ (j < first.count) → 16 + j * first.blocks + first.blocks ≤ line.at.blocks → old e (line.at.start + (16 + j * first.blocks)) ≡ block_of []
  blank_old j up numbered within = f.behind j up (elim numbered [ inl z ↦ absurd (omega (arith, z, up)) | inr lt ↦ lt ]) within

  blank_new : (j : ℕ) → k < j → (j ≡ 0) ⊎ (j < first.count) → 16 + j * first.blocks + first.blocks ≤ line.at.blocks → new e (line.at.start + (16 + j * first.blocks)) ≡ block_of []
  blank_new j up numbered within =
      let over = places_step k j first.blocks up in
      let least = f.lies.least in
      later_kept (line.at.start + (16 + j * first.blocks)) (omega (arith, over, least)) ∙ blank_old j up numbered within

  never_behind : (image : Image) (j : ℕ) (h : Head) → image e (line.at.start + (16 + j * first.blocks)) ≡ block_of [] → IsThere Spells site line j (image e) first h → ⊥
  never_behind image j h blank is = no_head_blank (place_on line first.blocks first.count j) (size_on site line) (image e) blank h is.here.readable.of_head

  pub later_now : (j : ℕ) (m : Master) (h : Head) → IsThere Spells site line j (new e) m h → ((j < k) × (m ≡ first)) ⊎ ((j ≡ k) × (m ≡ first) × (h ≡ later))
  later_now j m h is =
      let same = one_master line (size_on site line) (new e (line.at.start + 16)) m first is.located first_new in
      subst (λ (n : Master). IsThere Spells site line j (new e) n h → ((j < k) × (n ≡ first)) ⊎ ((j ≡ k) × (n ≡ first) × (h ≡ later))) (sym same)
      (λ mine. elim (cases_lt j k) [
        | inl lt ↦ inl (lt, refl)
        | inr up ↦ elim (cases_eq j k) [
          | inl at_k ↦
              let at = place_on line first.blocks first.count k in
              let its = subst (λ (i : ℕ). IsInChain Spells site line i (new e) first h) at_k mine.here in
              inr (at_k, refl, one_head at (size_on site line) (new e at.first) (new e (at.first + 1)) (new e (at.first + 2)) (new e (at.first + 3)) h later its.readable.of_head later_spelled)
          | inr other ↦ absurd (never_behind new j h (blank_new j (omega (arith, up, other)) mine.numbered mine.within) mine)
        ]
      ])
      is

  later_was : (j : ℕ) (m : Master) (h : Head) → IsFound Spells site line j (old e) m h
      → ((j < k) × (m ≡ first)) ⊎ ((spot_on line m.blocks j ≡ spot_on line first.blocks k) ⊎ (is_in [] (spot_on line m.blocks j) ≡ true))
  later_was j m h is =
      let same = one_master line (size_on site line) (old e (line.at.start + 16)) m first is.located has.located in
      subst (λ (n : Master). IsFound Spells site line j (old e) n h → ((j < k) × (n ≡ first)) ⊎ ((spot_on line n.blocks j ≡ spot_on line first.blocks k) ⊎ (is_in [] (spot_on line n.blocks j) ≡ true))) (sym same)
      (λ mine. elim (cases_lt j k) [
        | inl lt ↦ inl (lt, refl)
        | inr up ↦ elim (cases_eq j k) [
          | inl at_k ↦ inr (inl (ap (λ (i : ℕ). spot_on line first.blocks i) at_k))
          | inr other ↦ absurd (never_behind old j h (blank_old j (omega (arith, up, other)) mine.numbered mine.within) (there_of Spells site site.key line j (old e) first h mine))
        ]
      ])
      is

  -- those in front of it are readable
  module _ (chain : (j : ℕ) → j < k → (h : Head) × IsInChain Spells site line j (old line.at.drive.0) first h) where
    pub own_later : IsOwn Spells site identity line k new first later
    own_later = record {
      found = record {
        one_of = f.one_of;
        located = first_new;
        numbered = f.numbered;
        within = f.within;
        before = λ j lt.
            let c = chain j lt in
            let up = places_step j k first.blocks lt in
            (c.0, chain_kept Spells site line (old e) (new e) first c.0 j (λ block from to. front_kept block (omega (arith, to, up))) c.1);
        here = record { readable = record { of_head = later_spelled; of_first = tt; of_second = tt }; length = refl };
        of_key = refl;
      };
      of_identity = refl;
    }

    pub later_formatted : IsFormattedAt Spells site identity line k first later [] old new
    later_formatted = record {
      site_is = f.site_is;
      own = own_later;
      shut = both_shut later refl refl;
      others = λ other apart. others_same line other apart k first.blocks 4 old new (omega (arith, f.lies.least, f.within)) formats.elsewhere;
      front = front_kept;
      now = λ j m h is. later_now j m h (there_of Spells site site.key line j (new e) m h is);
      was = later_was;
      gone_here = λ other j b apart fits least. refl;
      gone_behind = λ j lt. refl;
    }

-- a place that is formatted, as an event
format_next : (w : Core) (p : Spot) (s : Stage) → p.mediator ≡ false → may_format w p s ≡ true → (number : ℕ) → next_number s ≡ Some number
    → ((formatted_at w p s).places ≡ put_at w.places p (formatted_spot number None)) × ((formatted_at w p s).family ≡ w.family)
format_next w p (Reading read) kind may number is = absurd (false≢true may)
format_next w p (Creating next) kind may number is = (ap (λ (n : ℕ). put_at w.places p (formatted_spot n None)) (some_same next.mark.boot number is), refl)
format_next w p (Claiming i next taken) kind may number is = absurd (false≢true may)
format_next w p (Writing boot took) kind may number is = absurd (false≢true may)
format_next w p (Ready None) kind may number is = absurd (none_never number is)
format_next w p (Ready (Some next)) kind may number is =
    let to : formatted_at w p (Ready (Some next)) ≡ formatted_place w p next = cond-false p.mediator (formatted_seat w p) (formatted_place w p next) kind in (
      ap (λ (c : Core). c.places) to ∙ ap (λ (n : ℕ). put_at w.places p (formatted_spot n None)) (some_same next.mark.boot number is),
      ap (λ (c : Core). c.family) to,
    )

module _ {Table : Type 0} (Spells : List ℕ → Table → Type 0) (site : Site) (identity : Identity) (tables : ℕ → Table) where
  format_happens : (w : Core) (p : Spot) (number : ℕ) (image : Image) → p.mediator ≡ false → IsFormattable w p number
      → ShowsPlaces Spells site identity tables w.family (put_at w.places p (formatted_spot number None)) image → Shows Spells site identity tables (happens w (Formatted p)) image
  format_happens w p number image kind is shows =
      let n = format_next w p w.stage kind is.fits number is.number_is in
      subst (λ (g : List Version). ShowsPlaces Spells site identity tables g (formatted_at w p w.stage).places image) (sym n.1)
      (subst (λ (l : List SpotState). ShowsPlaces Spells site identity tables w.family l image) (sym n.0) shows)

  -- where a slice has no first master, nothing is found on it
  nothing_shows : (w : Core) (line : SliceLine) (old new : Image) → ((b : SliceLine) → Contains site.lines b → (b ≡ line) ⊎ ((block : ℕ) → b.at.start ≤ block → block < b.at.start + b.at.blocks → new b.at.drive.0 block ≡ old b.at.drive.0 block))
      → FirstIs site old line None → ((j : ℕ) (m : Master) (h : Head) → IsOwn Spells site identity line j new m h → ⊥) → Shows Spells site identity tables w old → Shows Spells site identity tables w new
  nothing_shows w line old new same none still shows = record {
    each = λ l j m h own. elim (same l own.found.one_of) [
      | inl e ↦ absurd (still j m h (subst (λ (b : SliceLine). IsOwn Spells site identity b j new m h) e own))
      | inr kept ↦
          let d = l.at.drive.0 in
          let within = own.found.within in
          let back = found_kept Spells site l (new d) (old d) m j h (λ block from to. sym (kept block (omega (arith, from)) (omega (arith, to, within)))) own.found in
          place_same Spells tables w.family (place_on l m.blocks m.count j) (old d) (new d) h (place_at w.places (spot_on l m.blocks j)) own.found.located.lies.least
          (λ block from to. kept block (omega (arith, from)) (omega (arith, to, within)))
          (shows.each l j m h (record { found = back; of_identity = own.of_identity }))
    ];
    only = λ q kind holds.
        let was = shows.only q kind holds in
        elim (same was.line was.own.found.one_of) [
          | inl e ↦ absurd (subst (λ (b : SliceLine). FirstIs site old b None) (sym e) none was.first was.own.found.located)
          | inr kept ↦ (let within = was.own.found.within in record {
            line = was.line;
            number = was.number;
            first = was.first;
            head = was.head;
            own = record {
              found = found_kept Spells site was.line (old was.line.at.drive.0) (new was.line.at.drive.0) was.first was.number was.head
                  (λ block from to. kept block (omega (arith, from)) (omega (arith, to, within))) was.own.found;
              of_identity = was.own.of_identity;
            };
            spot = was.spot;
          })
        ];
    seats = shows.seats;
  }

  module _ (w : Core) (old new : Image) (line : SliceLine) (shows : Shows Spells site identity tables w old) where
    module _ (site_is : IsSite site) (one_of : Contains site.lines line) where
      -- what was found on the slice isn't any more
      first_lost : (blocks : ℕ) (before : Option Master) → 16 + 0 * blocks + 4 ≤ line.at.blocks → FirstIs site old line before → SameOutside (range line.at.drive.0 (line.at.start + (16 + 0 * blocks)) 4) old new
          → ((j : ℕ) (m : Master) (h : Head) → IsOwn Spells site identity line j new m h → ⊥) → Shows Spells site identity tables (after_all w (wiped_all (lost_with line before))) new
      first_lost blocks None fits none outside still =
          nothing_shows w line old new
          (λ b has. elim (site_is.apart line b one_of has) [
            | inl e ↦ inl (sym e)
            | inr apart ↦ inr (others_same line b apart 0 blocks 4 old new fits outside)
          ])
          none still shows
      first_lost blocks (Some b) fits located outside still =
          let has : HasFirst site old line b = record { site_is = site_is; one_of = one_of; located = located } in
          let here : line.at.start + (16 + 0 * blocks) ≡ line.at.start + (16 + 0 * b.blocks) = omega arith in
          cut_shows Spells site identity line 0 b old new has
          (record {
            others = λ other apart. others_same line other apart 0 b.blocks 4 old new (omega (arith, fits)) (subst (λ (n : ℕ). SameOutside (range line.at.drive.0 n 4) old new) here outside);
            front = λ block to. outside line.at.drive.0 block (before_range line.at.drive.0 (line.at.start + (16 + 0 * blocks)) 4 block (omega (arith, to)));
            cut = λ j m h own. absurd (still j m h own);
          })
          w (after_all w (wiped_all (spots_behind line b 0))) (all_wiped w (spots_behind line b 0)) tables shows

      -- the master of the first place is blank
      first_blank : (blocks : ℕ) (before : Option Master) → 16 + 0 * blocks + 4 ≤ line.at.blocks → FirstIs site old line before → SameOutside (range line.at.drive.0 (line.at.start + (16 + 0 * blocks)) 4) old new
          → new line.at.drive.0 (line.at.start + (16 + 0 * blocks)) ≡ block_of [] → Shows Spells site identity tables (after_all w (wiped_all (lost_with line before))) new
      first_blank blocks before fits known outside blank =
          first_lost blocks before fits known outside (λ j m h own. no_blank_master m (sym blank ∙ ap (new line.at.drive.0) (omega arith) ∙ own.found.located.spelled))

    -- the master of a later place is blank
    later_blank : (k : ℕ) (first : Master) → 16 + k * first.blocks + 4 ≤ line.at.blocks → HasFirst site old line first
        → SameOutside (range line.at.drive.0 (line.at.start + (16 + k * first.blocks)) 4) old new → new line.at.drive.0 (line.at.start + (16 + k * first.blocks)) ≡ block_of []
        → Shows Spells site identity tables (after_all w (wiped_all (spots_behind line first k))) new
    later_blank k first fits has outside blank =
        cut_shows Spells site identity line k first old new has (wipe_cuts Spells site line k first old new has 4 fits outside blank identity) w
        (after_all w (wiped_all (spots_behind line first k))) (all_wiped w (spots_behind line first k)) tables shows

    module _ (blocks count number : ℕ) (before : Option Master) (f : IsFormat site identity old line blocks count 0 number) (known : FirstIs site old line before)
        (may : IsFormattable (after_all w (wiped_all (lost_beside line before blocks count))) (spot_on line blocks 0) number) where
      abbrev rest : Core
      rest = after_all w (wiped_all (lost_beside line before blocks count))

      pub first_ends : Formats (place_on line blocks count 0) (master_on site identity line blocks count 0) number old new → Shows Spells site identity tables (happens rest (Formatted (spot_on line blocks 0))) new
      first_ends formats =
          format_happens rest (spot_on line blocks 0) number new refl may
          (formatted_shows Spells site identity line 0 (master_on site identity line blocks count 0) (formatted_head (place_on line blocks count 0) site.key identity number) (lost_beside line before blocks count) old new
          (first_formatted Spells site identity line blocks count number before old new f known formats) tables w rest (all_wiped w (lost_beside line before blocks count)) shows)

      pub first_goes : MayFormat (place_on line blocks count 0) (master_on site identity line blocks count 0) number old new
          → Shows Spells site identity tables w new ⊎ (Shows Spells site identity tables (after_all w (wiped_all (lost_with line before))) new ⊎ Shows Spells site identity tables (happens rest (Formatted (spot_on line blocks 0))) new)
      first_goes (untouched same) = inl (shows_same Spells site identity tables w.family w.places old new same shows)
      first_goes (blanked others blank) = inr (inl (first_blank f.site_is f.one_of blocks before (omega (arith, f.lies.least, f.within)) known others blank))
      first_goes (formatted formats) = inr (inr (first_ends formats))

    module _ (k number : ℕ) (first : Master) (some : 0 < k) (f : IsFormat site identity old line first.blocks first.count k number) (has : HasFirst site old line first)
        (chain : (j : ℕ) → j < k → (h : Head) × IsInChain Spells site line j (old line.at.drive.0) first h) (may : IsFormattable w (spot_on line first.blocks k) number) where
      pub later_ends : Formats (place_on line first.blocks first.count k) (master_on site identity line first.blocks first.count k) number old new
          → Shows Spells site identity tables (happens w (Formatted (spot_on line first.blocks k))) new
      later_ends formats =
          format_happens w (spot_on line first.blocks k) number new refl may
          (formatted_shows Spells site identity line k first (formatted_head (place_on line first.blocks first.count k) site.key identity number) [] old new
          (later_formatted Spells site identity line k number first old new some f has formats chain) tables w w (all_wiped w []) shows)

      pub later_goes : MayFormat (place_on line first.blocks first.count k) (master_on site identity line first.blocks first.count k) number old new
          → Shows Spells site identity tables w new ⊎ (Shows Spells site identity tables (after_all w (wiped_all (spots_behind line first k))) new
          ⊎ Shows Spells site identity tables (happens w (Formatted (spot_on line first.blocks k))) new)
      later_goes (untouched same) = inl (shows_same Spells site identity tables w.family w.places old new same shows)
      later_goes (blanked others blank) = inr (inl (later_blank k first (omega (arith, f.lies.least, f.within)) has others blank))
      later_goes (formatted formats) = inr (inr (later_ends formats))

pub law_first_formats : (T : Type 0) → FirstFormatsGo T
law_first_formats T = record {
  moments = λ read site identity tables w old new line blocks count number before f known shows may change.
      first_goes (Reads read) site identity tables w old new line shows blocks count number before f known may change;
  end = λ read site identity tables w old new line blocks count number before f known shows may formats. record {
    site_is = f.site_is;
    shows = first_ends (Reads read) site identity tables w old new line shows blocks count number before f known may formats;
    own = own_first (Reads read) site identity line blocks count number before old new f known formats;
  };
}

pub law_later_formats : (T : Type 0) → LaterFormatsGo T
law_later_formats T = record {
  moments = λ read site identity tables w old new line k number first some f has chain shows may change.
      later_goes (Reads read) site identity tables w old new line shows k number first some f has chain may change;
  end = λ read site identity tables w old new line k number first some f has chain shows may formats. record {
    site_is = f.site_is;
    shows = later_ends (Reads read) site identity tables w old new line shows k number first some f has chain may formats;
    own = own_later (Reads read) site identity line k number first old new some f has formats chain;
  };
}

-- for another database
module _ {Table : Type 0} (Spells : List ℕ → Table → Type 0) (site : Site) (identity : Identity) (tables : ℕ → Table) (w : Core) (old new : Image) (line : SliceLine) (shows : Shows Spells site identity tables w old)
    (key : Key) (other : Identity) (another : key ≡ site.key → other ≡ identity → ⊥) where
  abbrev theirs : Site
  theirs = record site { key = key }

  apart_too : IsSite theirs → IsSite site
  apart_too is = record { apart = is.apart; long = is.long }

  -- a replica of theirs isn't of this database
  not_mine : (line : SliceLine) (j k blocks count number : ℕ) (m : Master) (h : Head) → h ≡ formatted_head (place_on line blocks count k) key other number → IsOwn Spells site identity line j new m h → ⊥
  not_mine l j k blocks count number m h same own =
      another (sym (ap (λ (n : Head). n.master.key) same) ∙ own.found.of_key) (sym (ap (λ (n : Head). n.master.identity) same) ∙ own.of_identity)

  module _ (blocks count number : ℕ) (before : Option Master) (f : IsFormat theirs other old line blocks count 0 number) (known : FirstIs site old line before) where
    pub others_first : MayFormat (place_on line blocks count 0) (master_on theirs other line blocks count 0) number old new
        → Shows Spells site identity tables w new ⊎ Shows Spells site identity tables (after_all w (wiped_all (lost_with line before))) new
    others_first (untouched same) = inl (shows_same Spells site identity tables w.family w.places old new same shows)
    others_first (blanked outside blank) =
        inr (first_blank Spells site identity tables w old new line shows (apart_too f.site_is) f.one_of blocks before (omega (arith, f.lies.least, f.within)) known outside blank)
    others_first (formatted formats) =
        inr (first_lost Spells site identity tables w old new line shows (apart_too f.site_is) f.one_of blocks before (omega (arith, f.lies.least, f.within)) known formats.elsewhere
        (λ j m h own. elim (first_now Spells theirs other line blocks count number before old new f known formats j m h (there_of Spells theirs site.key line j (new line.at.drive.0) m h own.found)) [
          | inl c ↦ absurd (omega (arith, c.0))
          | inr c ↦ not_mine line j 0 blocks count number m h c.2 own
        ]))

  module _ (k number : ℕ) (first : Master) (some : 0 < k) (f : IsFormat theirs other old line first.blocks first.count k number) (has : HasFirst site old line first) where
    pub others_later : MayFormat (place_on line first.blocks first.count k) (master_on theirs other line first.blocks first.count k) number old new
        → Shows Spells site identity tables w new ⊎ Shows Spells site identity tables (after_all w (wiped_all (spots_behind line first k))) new
    others_later (untouched same) = inl (shows_same Spells site identity tables w.family w.places old new same shows)
    others_later (blanked outside blank) = inr (later_blank Spells site identity tables w old new line shows k first (omega (arith, f.lies.least, f.within)) has outside blank)
    others_later (formatted formats) =
        let its : HasFirst theirs old line first = record { site_is = f.site_is; one_of = has.one_of; located = has.located } in
        inr (cut_shows Spells site identity line k first old new has
        (record {
          others = λ b apart. others_same line b apart k first.blocks 4 old new (omega (arith, f.lies.least, f.within)) formats.elsewhere;
          front = λ block to. formats.elsewhere line.at.drive.0 block (before_range line.at.drive.0 (line.at.start + (16 + k * first.blocks)) 4 block to);
          cut = λ j m h own.
              elim (later_now Spells theirs other line k number first old new some f its formats j m h (there_of Spells theirs site.key line j (new line.at.drive.0) m h own.found)) [
                | inl c ↦ c
                | inr c ↦ absurd (not_mine line j k first.blocks first.count number m h c.2 own)
              ];
        })
        w (after_all w (wiped_all (spots_behind line first k))) (all_wiped w (spots_behind line first k)) tables shows)

pub law_others_formats : (T : Type 0) → OthersFormatsGo T
law_others_formats T = record {
  first = λ read site identity tables w old new line blocks count number before key other another f known shows change.
      others_first (Reads read) site identity tables w old new line shows key other another blocks count number before f known change;
  later = λ read site identity tables w old new line k number first key other another some f has shows change.
      others_later (Reads read) site identity tables w old new line shows key other another k number first some f has change;
}

pub law_blank : (T : Type 0) → BlankSlicesRest T
law_blank T read site identity tables w old new line site_is one_of none still outside shows =
    nothing_shows (Reads read) site identity tables w line old new
    (λ b has. elim (site_is.apart line b one_of has) [
      | inl e ↦ inl (sym e)
      | inr apart ↦ inr (λ block from to.
          outside b.at.drive.0 block (false_from_ne_true (line_area line b.at.drive.0 block) (λ is. apart b.at.drive.0 block is (range_has b.at.drive.0 b.at.start b.at.blocks block from to))))
    ])
    none (λ j m h own. still m own.found.located) shows
