-- The stretches of a change of places, one behind another: which events of the votes they make.
use Rattle.std.proofs.Common.{◌≡◌, ◌⊎◌, inl, inr, ℕ, List, [], ◌∷◌, ◌++◌, map, Contains, Option, refl, sym, ◌∙◌, ap, append-nil}
use Rattle.mdv_quorum.specs.declared.event.Event.TheVariants.{Told}
use Rattle.mdv_standing.specs.Standing.{CoversWith}
use Rattle.mdv_standing.specs.Tracing.{IsCommitBegin, taken_at}
use Rattle.mdv_standing.proofs.Tracing.{goes_on_more, run_within, traced}
use Rattle.mdv_store_law.proofs.Parts.{part_itself, part_mapped, part_more}
use Rattle.mdv_store_law.specs.Log.{ChangesAlone, Issue, OfChange, OfCreation, OfEnd, OfPlaces, log_after_all}
use Rattle.mdv_store_law.specs.Part.{IsPart}
use Rattle.mdv_store.proofs.Rows.{part_has}
use Rattle.mdv_standing.specs.Below.{Filled, Slotted}
use Rattle.mdv_standing.specs.Matching.{spots_of as lists_of_spots}
use Rattle.mdv_places.specs.Below.{Change, Core, Event, Geometry, Identity, Log, Opened, Spot, Table, Tale, settled, site_of, spots_of}
use Rattle.mdv_store.specs.Below.{Site}
use Rattle.mdv_places.specs.Changing.{both_of}
use Rattle.mdv_places.specs.Going.{IsMoving, TracesBy}
use Rattle.mdv_places.specs.Moments.{AreOfMove, IsForming}
use Rattle.mdv_places.specs.Asked.{Asks}
use Rattle.mdv_places.proofs.Emptying.{AreWipes, no_wipes}
use Rattle.mdv_places.proofs.Recording.{AreRecorded}

module _ (Which : Issue → Type 0) (Spells : List ℕ → Table → Type 0) (g : Geometry) (site : Site) (identity : Identity) where
  -- one stretch behind another, from the logs that the first leads to
  pub traces_then : (asks others : List (Option Change)) (Known Middle After : Log → Type 0) (Know Between Then : Core → Type 0) (One Other Are : List Event → Type 0) (t u m : Tale) → ((es fs : List Event) → One es → Other fs → Are (es ++ fs))
      → TracesBy Which Spells g site identity Known asks Know One Between Middle t u → TracesBy Which Spells g site identity Middle others Between Other Then After u m → TracesBy Which Spells g site identity Known (asks ++ others) Know Are Then After t m
  traces_then asks others Known Middle After Know Between Then One Other Are t u m both first second log covers known =
      let one = first log covers known in
      goes_on_more Spells site identity Which g asks others Know Between Then One Other Are (λ l. Middle l × CoversWith Spells site identity (λ image w. Between w) l u) After t u m log both
      (record { es = one.es; course = one.course; come = one.come; traces = one.traces; after = (one.after, traced Spells site identity log (log_after_all log one.es) Know One Between t u covers one.traces) })
      (λ next so. second next so.1 so.0)

-- a change of places may issue whatever changes there are
pub is_moving : (asked : Asks) (issue : Issue) → ChangesAlone issue → IsMoving asked issue
is_moving asked (OfCreation identity) is = is
is_moving asked (OfChange change) is = is
is_moving asked (OfPlaces places) is = absurd is
is_moving asked OfEnd is = is

-- fewer places take the table
pub fewer_places : (site : Site) (table : Table) (some all : List Spot) (es : List Event) → IsPart some all → AreRecorded site table some es → AreRecorded site table all es
fewer_places site table some all es part (p, one_of, run) = (
  p,
  part_has some all p part one_of,
  run_within (IsCommitBegin (lists_of_spots site table.plan.lists) p) (taken_at some) (taken_at all) es
      (part_more (map (λ (q : Spot). Slotted q Filled) some) (map (λ (q : Spot). Slotted q Filled) all) (Told ∷ []) (Told ∷ []) (part_mapped (λ (q : Spot). Slotted q Filled) some all part) (part_itself (Told ∷ []))) run,
)

module _ (g : Geometry) (old : Opened) (asked : Asks) where
  abbrev site : Site
  site = site_of g old.key

  abbrev all : List Spot
  all = spots_of (both_of old asked).seats

  -- the second record's events, and those of wipes
  pub record AreLast (es : List Event) : Type 0 where
    pub last : List Event
    pub wiped : List Event
    pub one : (last ≡ []) ⊎ AreRecorded site (settled (both_of old asked).table) all last
    pub wiping : AreWipes wiped
    pub is : es ≡ last ++ wiped

  -- the first record's, and those
  pub record AreBoth (es : List Event) : Type 0 where
    pub first : List Event
    pub rest : List Event
    pub both : AreRecorded site (both_of old asked).table all first
    pub tail : AreLast rest
    pub is : es ≡ first ++ rest

  abbrev pub AreFormed : List Event → Type 0
  AreFormed es = (e : Event) → Contains es e → IsForming g old asked e

  pub last_alone : (es : List Event) → AreRecorded site (settled (both_of old asked).table) all es → AreLast es
  last_alone es run = record { last = es; wiped = []; one = inr run; wiping = no_wipes; is = sym (append-nil es) }

  pub last_wiped : (es fs : List Event) → AreRecorded site (settled (both_of old asked).table) all es → AreWipes fs → AreLast (es ++ fs)
  last_wiped es fs run wipes = record { last = es; wiped = fs; one = inr run; wiping = wipes; is = refl }

  pub both_then : (es fs : List Event) → AreRecorded site (both_of old asked).table all es → AreLast fs → AreBoth (es ++ fs)
  both_then es fs run tail = record { first = es; rest = fs; both = run; tail = tail; is = refl }

  pub both_alone : (es : List Event) → AreRecorded site (both_of old asked).table all es → AreBoth es
  both_alone es run = record { first = es; rest = []; both = run; tail = record { last = []; wiped = []; one = inl refl; wiping = no_wipes; is = refl }; is = sym (append-nil es) }

  pub move_formed : (es : List Event) → AreFormed es → AreOfMove g old asked es
  move_formed es formed = record { formed = es; first = []; last = []; wiped = []; forming = formed; both = inl refl; one = inl refl; wiping = no_wipes; is = sym (append-nil es) }

  pub move_then : (es fs : List Event) → AreFormed es → AreBoth fs → AreOfMove g old asked (es ++ fs)
  move_then es fs formed b = record {
    formed = es;
    first = b.first;
    last = b.tail.last;
    wiped = b.tail.wiped;
    forming = formed;
    both = inr b.both;
    one = b.tail.one;
    wiping = b.tail.wiping;
    is = ap (λ (l : List Event). es ++ l) (b.is ∙ ap (λ (l : List Event). b.first ++ l) b.tail.is);
  }
