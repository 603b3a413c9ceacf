-- How what goes on is joined, told of less, and taken from what the history's laws say.
use Rattle.std.proofs.Common.{◌≡◌, ◌⊎◌, inl, inr, List, [], ◌∷◌, ◌++◌, Some, None, Contains, refl, sym, ◌∙◌, subst, arith}
use Rattle.mdv_engine_law.specs.Below.{KeptOutside, nowhere, Tale, History, Deed, Event, Happens, IsCourse, history_after, history_after_all, IsIssue, Acknowledges, Boots, Changed, Crashes, Creation, Deleted, Deletes, Issue, OfChange, OfCreation, OfDatabase, OfEnd, OfPlaces, OfVolume, Reads, Shows, Stops, Unsettles}
use Rattle.mdv_store_law.specs.Log as log
use Rattle.mdv_store_law.proofs.Parts.{part_before, part_front, part_itself}
use Rattle.mdv_volumes.proofs.Lists.{contains_behind, contains_first, first_or_behind}
use Rattle.mdv_engine_law.specs.Hosts.{key_of}
use Rattle.mdv_store_law.specs.Part.{IsPart}
use Rattle.mdv_volumes.specs.Happening.{begins, tells}
use Rattle.mdv_store_law.specs.Machine.{AreAll}
use Rattle.mdv_store_law.specs.Machine as machine
use Rattle.mdv_store_law.proofs.Machine.{adds_more, adds_weaker}
use Rattle.mdv_store_law.proofs.Machine.{goes_more as machine_more, goes_weaker as machine_weaker}
use Rattle.mdv_engine_law.specs.Awake.{Happening, IsAwakeAt}
use Rattle.mdv_engine_law.specs.declared.host.Host.{Host}
use Rattle.mdv_engine_law.specs.Standing.{StandsAt, IsOfRun, Does, Goes}
use Rattle.mdv_engine_law.proofs.Knowing.{stands_kept}

-- blocks of volumes are read and written only where a boot has found what they hold
abbrev pub AllAwake : Host → History → List Event → Type 0
AllAwake host = machine.IsCourse history_after (IsAwakeAt host.drives)

module _ (host : Host) where
  pub both_courses : (h : History) (es : List Event) → IsCourse host.drives h es → AllAwake host h es → machine.IsCourse history_after (Happening host) h es
  both_courses h [] course awake = tt
  both_courses h (e ∷ es) course awake = ((course.0, awake.0), both_courses (history_after h e) es course.1 awake.1)

  pub may_course : (h : History) (es : List Event) → machine.IsCourse history_after (Happening host) h es → IsCourse host.drives h es
  may_course h [] course = tt
  may_course h (e ∷ es) course = (course.0.0, may_course (history_after h e) es course.1)

-- what is said unless a boot met a stale vote, told of less
pub met_or : {M A B : Type 0} → (A → B) → M ⊎ A → M ⊎ B
met_or less (inl met) = inl met
met_or less (inr is) = inr (less is)

-- nothing happened
pub goes_none : (host : Host) (asks : List Deed) (After : List Event → History → Type 0) (m : Tale) (h : History) → StandsAt host h m → After [] h → Goes host asks [] After m h
goes_none host asks After m h stands after = record { es = []; course = tt; come = record { tells = refl; issues = tt; begins = tt }; stands = stands; after = after }

-- no deed is among none, nor among one other
pub not_among : (deed : Deed) → Contains [] deed → ⊥
not_among deed has = omega (arith, has.1)

pub not_other : (one deed : Deed) → (one ≡ deed → ⊥) → Contains (one ∷ []) deed → ⊥
not_other one deed differ has = elim (first_or_behind one deed [] has) [ inl same ↦ differ same | inr none ↦ not_among deed none ]

-- what a part has the whole has
pub part_contains : {X : Type 0} (part whole : List X) (x : X) → IsPart part whole → Contains part x → Contains whole x
part_contains [] whole x is has = absurd (omega (arith, has.1))
part_contains (y ∷ part) [] x is has = absurd is
part_contains {X} (y ∷ part) (z ∷ whole) x (inl is) has = elim (first_or_behind y x part has) [
  | inl same ↦ subst (λ (w : X). Contains (z ∷ whole) w) (sym is.0 ∙ same) (contains_first z whole)
  | inr behind ↦ contains_behind z x whole (part_contains part whole x is.1 behind)
]
part_contains (y ∷ part) (z ∷ whole) x (inr is) has = contains_behind z x whole (part_contains (y ∷ part) whole x is has)

-- where more is asked more may be issued
module _ (host : Host) (asks all : List Deed) (more : IsPart asks all) where
  of_run_more : (i : Issue) → IsOfRun host asks i → IsOfRun host all i
  of_run_more (OfCreation identity) is = is
  of_run_more (OfChange change) is = part_contains asks all (Changed (key_of host) change) more is
  of_run_more (OfPlaces places) is = (is.0, part_contains asks all (Changed (key_of host) is.0) more is.1, is.2)
  of_run_more OfEnd is = part_contains asks all (Deleted (key_of host)) more is

  log_issue_more : (e : log.Event) → log.IsIssue (IsOfRun host asks) e → log.IsIssue (IsOfRun host all) e
  log_issue_more (log.Issued identity) is = is
  log_issue_more (log.Writing mark None before table) is = tt
  log_issue_more (log.Writing mark (Some change) before table) is = of_run_more (OfChange change) is
  log_issue_more log.Written is = tt
  log_issue_more (log.Told which before) is = tt
  log_issue_more (log.Placing places) is = of_run_more (OfPlaces places) is
  log_issue_more log.Clearing is = of_run_more OfEnd is
  log_issue_more log.Gone is = tt

  pub issue_more : (e : Event) → IsIssue (IsOfRun host asks) e → IsIssue (IsOfRun host all) e
  issue_more (Creation key identity) is = is
  issue_more (OfDatabase key identity e) is = log_issue_more e is
  issue_more (OfVolume key volume e) is = tt
  issue_more (Reads key volume at blocks) is = tt
  issue_more (Acknowledges place key volume at blocks) is = tt
  issue_more (Shows place key volume at blocks) is = tt
  issue_more (Deletes place key) is = tt
  issue_more (Boots key up) is = tt
  issue_more (Unsettles key drive) is = tt
  issue_more Stops is = absurd is
  issue_more Crashes is = absurd is

-- what is done where less is asked is done where more is
pub does_wider : (host : Host) (asks all done : List Deed) (es : List Event) → IsPart asks all → Does host asks done es → Does host all done es
does_wider host asks all done es within does = adds_weaker tells begins (IsIssue (IsOfRun host asks)) (IsIssue (IsOfRun host all)) asks all done es (issue_more host asks all within) within does

pub does_more : (host : Host) (asks others all done more : List Deed) (es fs : List Event) → IsPart (asks ++ others) all → Does host asks done es → Does host others more fs → Does host all (done ++ more) (es ++ fs)
does_more host asks others all done more es fs within one other = does_wider host (asks ++ others) all (done ++ more) (es ++ fs) within (adds_more tells begins (IsIssue (IsOfRun host (asks ++ others))) asks others done more es fs
    (adds_weaker tells begins (IsIssue (IsOfRun host asks)) (IsIssue (IsOfRun host (asks ++ others))) asks asks done es (issue_more host asks (asks ++ others) (part_front asks others)) (part_itself asks) one)
    (adds_weaker tells begins (IsIssue (IsOfRun host others)) (IsIssue (IsOfRun host (asks ++ others))) others others more fs (issue_more host others (asks ++ others) (part_before others asks others (part_itself others))) (part_itself others) other))

-- one stretch after another
pub goes_more : (host : Host) (asks others all done more : List Deed) (Between After : List Event → History → Type 0) (u m : Tale) (h : History) → IsPart (asks ++ others) all → Goes host asks done Between u h
    → ((es : List Event) (g : History) → StandsAt host g u → Between es g → Goes host others more (λ fs. After (es ++ fs)) m g) → Goes host all (done ++ more) After m h
goes_more host asks others all done more Between After u m h within =
    machine_more history_after (Happening host) (Does host asks done) (Does host others more) (Does host all (done ++ more)) (λ g. StandsAt host g u) (λ g. StandsAt host g m) Between After h
    (λ es fs one other. does_more host asks others all done more es fs within one other)

-- more was asked, less is known, and no block changed since
pub goes_weaker : (host : Host) (asks all done : List Deed) (After Then : List Event → History → Type 0) (u v : Tale) (h : History) → IsPart asks all → KeptOutside nowhere u v
    → ((es : List Event) (g : History) → After es g → Then es g) → Goes host asks done After u h → Goes host all done Then v h
goes_weaker host asks all done After Then u v h within kept less =
    machine_weaker history_after (Happening host) (Does host asks done) (Does host all done) (λ g. StandsAt host g u) (λ g. StandsAt host g v) After Then h
    (λ es does. does_wider host asks all done es within does) (λ g stands. stands_kept host u v kept g stands) (λ es g stands is. less es g is)

-- what happens to a history that the drives stand with, by a law of histories
module _ (host : Host) (asks begun done : List Deed) (m : Tale) (h : History) (es : List Event) (happens : Happens host.drives h es begun done m) (issues : AreAll (IsIssue (IsOfRun host asks)) es) where
  pub happened_stands : StandsAt host (history_after_all h es) m
  happened_stands = happens.stands

  pub happened : (After : List Event → History → Type 0) → AllAwake host h es → IsPart begun asks → After es (history_after_all h es) → Goes host asks done After m h
  happened After awake within after = record {
    es = es;
    course = both_courses host h es happens.course awake;
    come = record { tells = happens.tells; issues = issues; begins = subst (λ (l : List Deed). IsPart l asks) (sym happens.begins) within };
    stands = happened_stands;
    after = after;
  }
