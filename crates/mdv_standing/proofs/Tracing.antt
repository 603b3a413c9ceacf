-- How traces of calls go on, and what they say of the logs that the drives stand with.
use Rattle.std.proofs.Common.{◌≡◌, inl, inr, ℕ, Bool, true, List, [], ◌∷◌, ◌++◌, refl, sym, ◌∙◌, ap, subst, map, Option, append_assoc, append-nil}
use Rattle.std.proofs.lemmas.Bool.{false≢true, or_left}
use Rattle.mdv_votes.specs.Spots.{same_spot}
use Rattle.mdv_votes.proofs.Meeting.{same_self}
use Rattle.mdv_quorum.proofs.Events.{after_both, may_both}
use Rattle.mdv_replica.specs.Images.{IsSame}
use Rattle.mdv_store_law.specs.Log.{Adds, ChangesAlone, Event as LogEvent, IsAskable, IsCourse, Issue, asks_of, log_after_all}
use Rattle.mdv_store_law.specs.Log as store_law
use Rattle.mdv_store_law.specs.Part.{IsPart}
use Rattle.mdv_store_law.proofs.Issues.{any_asked, issue_weaker}
use Rattle.mdv_store_law.proofs.Machine.{adds_more, adds_weaker, after_more, course_more}
use Rattle.mdv_store_law.proofs.Parts.{part_itself, part_more, part_of_part}
use Rattle.mdv_standing.specs.Below.{Change, Claimed, Core, Event, Filled, Formatted, Geometry, Identity, Image, IsImage, IsWithin, Leaves, Log, Mark, MayHappen, Site, Slotted, Spot, Table, Tale, WritesLog, Written, after_all, is_in, log_after}
use Rattle.mdv_standing.specs.Others.{Anything}
use Rattle.mdv_standing.specs.Standing.{Covers, CoversWith, GoesFrom}
use Rattle.mdv_standing.specs.Tracing.{GoesTraced, GoesTracedBy, IsRun, Traces, TracesFrom, claims_at, fills_at, formats_at}
use Rattle.mdv_standing.specs.Turning.{IsNewest}
use Rattle.mdv_standing.specs.Worlds.{IsNoneOr, IsReadyWith, IsTaking, IsWorld, MayBeClaimed, Turned, claimed, not_yet}
use Rattle.mdv_standing.proofs.Turning.{covers_known}

-- Runs.
module _ (Begins : List Event → Type 0) where
  pub run_begins : (plan es : List Event) → Begins es → IsRun Begins plan es
  run_begins plan es begins = record { first = es; rest = []; begins = begins; part = tt; is = sym (append-nil es) }

  pub run_more : (plan more es fs : List Event) → IsRun Begins plan es → IsPart fs more → IsRun Begins (plan ++ more) (es ++ fs)
  run_more plan more es fs run part = record {
    first = run.first;
    rest = run.rest ++ fs;
    begins = run.begins;
    part = part_more run.rest plan fs more run.part part;
    is = ap (λ (l : List Event). l ++ fs) run.is ∙ append_assoc run.first run.rest fs;
  }

  pub run_within : (plan whole es : List Event) → IsPart plan whole → IsRun Begins plan es → IsRun Begins whole es
  run_within plan whole es within run = record { first = run.first; rest = run.rest; begins = run.begins; part = part_of_part run.rest plan whole run.part within; is = run.is }

pub part_one : (e : Event) (fs : List Event) → fs ≡ e ∷ [] → IsPart fs (e ∷ [])
part_one e fs is = subst (λ (l : List Event). IsPart l (e ∷ [])) (sym is) (part_itself (e ∷ []))

pub part_none_or : (e : Event) (fs : List Event) → IsNoneOr e fs → IsPart fs (e ∷ [])
part_none_or e fs (inl none) = subst (λ (l : List Event). IsPart l (e ∷ [])) (sym none) tt
part_none_or e fs (inr is) = part_one e fs is

mapped_one : (f : Spot → Event) (places : List Spot) (p : Spot) → map f (places ++ p ∷ []) ≡ map f places ++ f p ∷ []
mapped_one f [] p = refl
mapped_one f (x ∷ places) p = ap (λ (l : List Event). f x ∷ l) (mapped_one f places p)

-- one place more
pub claims_one : (places : List Spot) (p : Spot) → claims_at (places ++ p ∷ []) ≡ claims_at places ++ Claimed p ∷ []
claims_one places p = mapped_one Claimed places p

pub formats_one : (places : List Spot) (p : Spot) → formats_at (places ++ p ∷ []) ≡ formats_at places ++ Formatted p ∷ []
formats_one places p = mapped_one Formatted places p

pub fills_one : (places : List Spot) (p : Spot) → fills_at (places ++ p ∷ []) ≡ fills_at places ++ Slotted p Filled ∷ []
fills_one places p = mapped_one (λ q. Slotted q Filled) places p

-- Fewer places are known to have claimed, or to have taken the table.
no_place : (places : List Spot) → IsWithin (is_in places) (is_in []) → places ≡ []
no_place [] none = refl
no_place (p ∷ places) none = absurd (false≢true (none p (or_left (same_spot p p) (is_in places p) (same_self p))))

pub fewer_claimed : (mark : Mark) (number : ℕ) (ok fewer : List Spot) (w : Core) → IsWithin (is_in fewer) (is_in ok) → MayBeClaimed mark number ok w → MayBeClaimed mark number fewer w
fewer_claimed mark number ok fewer w within (not_yet none adopts) = not_yet (no_place fewer (subst (λ (l : List Spot). IsWithin (is_in fewer) (is_in l)) none within)) adopts
fewer_claimed mark number ok fewer w within (claimed h) =
    claimed (record { table = h.table; next = h.next; claimed = h.claimed; stage = h.stage; known = h.known; marked = h.marked; drawn = h.drawn; lists = h.lists; kind = h.kind; within = λ q e. h.within q (within q e) })

pub fewer_taking : (by_majority : Bool) (mark : Mark) (took fewer : List Spot) (w : Core) → IsWithin (is_in fewer) (is_in took) → IsTaking by_majority mark took w → IsTaking by_majority mark fewer w
fewer_taking by_majority mark took fewer w within t =
    record { boot = t.boot; all = t.all; stage = t.stage; marked = t.marked; kind = t.kind; within = λ q e. t.within q (within q e); taken = λ q e. t.taken q (within q e) }

pub fewer_ready : (took fewer : List Spot) (w : Core) → IsWithin (is_in fewer) (is_in took) → IsReadyWith took w → IsReadyWith fewer w
fewer_ready took fewer w within r = record { in_hand = r.in_hand; stage = r.stage; taken = λ q e. r.taken q (within q e) }

-- The newest version of a log behind an event.
pub newest_begun : (log : Log) (mark : Mark) (asked : Option Change) (before : List Change) (table : Table) → IsNewest (log_after log (WritesLog mark asked before table)) mark table
newest_begun log mark asked before table = record { version = _; older = log.family; family = refl; marked = refl; same = refl }

pub newest_answered : (log : Log) (mark : Mark) (table : Table) → IsNewest log mark table → IsNewest (log_after log Written) mark table
newest_answered log mark table n = record { version = record n.version { is_written = true }; older = n.older; family = ap store_law.answered n.family; marked = n.marked; same = n.same }

-- A write may be answered once it began.
pub may_answer : (g : Geometry) (log : Log) (mark : Mark) (table : Table) → IsNewest log mark table → MayHappen g log Written
may_answer g log mark table n = subst store_law.IsBegun (sym n.family) tt

-- A step of a log's course, and what it adds.
pub course_none : (g : Geometry) (log : Log) → IsCourse g log []
course_none g log = tt

pub course_one : (g : Geometry) (log : Log) (e : LogEvent) → MayHappen g log e → IsCourse g log (e ∷ [])
course_one g log e may = (may, tt)

module _ (Which : Issue → Type 0) where
  pub none_added : Adds Which [] [] []
  none_added = record { tells = refl; issues = tt; begins = tt }

  pub begun_added : (mark : Mark) (asked : Option Change) (before : List Change) (table : Table) → IsAskable Which asked → Adds Which (asks_of asked) [] (WritesLog mark asked before table ∷ [])
  begun_added mark asked before table may = record { tells = refl; issues = (may, tt); begins = subst (λ (l : List (Option Change)). IsPart l (asks_of asked)) (sym (append-nil (asks_of asked))) (part_itself (asks_of asked)) }

  pub answer_added : Adds Which [] [] (Written ∷ [])
  answer_added = record { tells = refl; issues = (tt, tt); begins = tt }

  pub written_added : (mark : Mark) (asked : Option Change) (before : List Change) (table : Table) → IsAskable Which asked → Adds Which (asks_of asked) [] (WritesLog mark asked before table ∷ (Written ∷ []))
  written_added mark asked before table may = record { tells = refl; issues = (may, (tt, tt)); begins = subst (λ (l : List (Option Change)). IsPart l (asks_of asked)) (sym (append-nil (asks_of asked))) (part_itself (asks_of asked)) }

-- where changes alone are issued, any may be
pub adds_none : Adds ChangesAlone [] [] []
adds_none = none_added ChangesAlone

pub adds_begun : (mark : Mark) (asked : Option Change) (before : List Change) (table : Table) → Adds ChangesAlone (asks_of asked) [] (WritesLog mark asked before table ∷ [])
adds_begun mark asked before table = begun_added ChangesAlone mark asked before table (any_asked asked)

pub adds_answered : Adds ChangesAlone [] [] (Written ∷ [])
adds_answered = answer_added ChangesAlone

pub adds_written : (mark : Mark) (asked : Option Change) (before : List Change) (table : Table) → Adds ChangesAlone (asks_of asked) [] (WritesLog mark asked before table ∷ (Written ∷ []))
adds_written mark asked before table = written_added ChangesAlone mark asked before table (any_asked asked)

pub course_written : (g : Geometry) (log : Log) (mark : Mark) (asked : Option Change) (before : List Change) (table : Table) → MayHappen g log (WritesLog mark asked before table) → IsCourse g log (WritesLog mark asked before table ∷ (Written ∷ []))
course_written g log mark asked before table may = (may, (tt, tt))

module _ (Spells : List ℕ → Table → Type 0) (site : Site) (identity : Identity) where
  -- a call whose images come by this change from those before it
  pub trace_by : (Change : Image → Image → Type 0) (log next : Log) (Know : Core → Type 0) (Are : List Event → Type 0) (Then : Core → Type 0) (t m : Tale) → Leaves Change t m
      → ((w : Core) (old new : Image) → IsImage t old → IsWorld Spells site identity log w old → Know w → Change old new → Turned Spells site identity next w new Are Then)
      → Traces Spells site identity log next Know Are Then t m
  trace_by Change log next Know Are Then t m leaves step new is = (let from = leaves new is in (from.0, from.1, λ w world known. step w from.0 new from.1 world known from.2))

  -- what happens with no call
  pub trace_here : (log next : Log) (Know : Core → Type 0) (Are : List Event → Type 0) (Then : Core → Type 0) (t : Tale)
      → ((w : Core) (image : Image) → IsImage t image → IsWorld Spells site identity log w image → Know w → Turned Spells site identity next w image Are Then)
      → Traces Spells site identity log next Know Are Then t t
  trace_here log next Know Are Then t step image is = (image, is, λ w world known. step w image is world known)

  -- nothing is written
  pub trace_same : (log : Log) (Know : Core → Type 0) (t m : Tale) → Leaves IsSame t m → Traces Spells site identity log log Know (λ es. es ≡ []) Know t m
  trace_same log Know t m leaves =
      trace_by IsSame log log Know (λ es. es ≡ []) Know t m leaves
      (λ w old new from world known same. record { events = []; are = refl; may = tt; world = subst (λ (image : Image). IsWorld Spells site identity log w image) (λ i drive block. sym (same drive block) i) world; known = known })

  -- one stretch behind another
  pub trace_more : (log next last : Log) (Know Between Then : Core → Type 0) (One Other Are : List Event → Type 0) (t u m : Tale) → ((es fs : List Event) → One es → Other fs → Are (es ++ fs))
      → Traces Spells site identity log next Know One Between t u → Traces Spells site identity next last Between Other Then u m → Traces Spells site identity log last Know Are Then t m
  trace_more log next last Know Between Then One Other Are t u m both first second new is =
      let mid = second new is in
      let from = first mid.0 mid.1 in (
        from.0,
        from.1,
        λ w world known.
            let one = from.2 w world known in
            let two = mid.2 (after_all w one.events) one.world one.known in
            let same : after_all (after_all w one.events) two.events ≡ after_all w (one.events ++ two.events) = sym (after_both w one.events two.events) in
            record {
              events = one.events ++ two.events;
              are = both one.events two.events one.are two.are;
              may = may_both w one.events two.events one.may two.may;
              world = subst (λ (v : Core). IsWorld Spells site identity last v new) same two.world;
              known = subst Then same two.known;
            },
      )

  -- of more is known, and less is asked
  pub trace_weaker : (log next : Log) (Know More Then Less : Core → Type 0) (Are Any : List Event → Type 0) (t m : Tale) → ((w : Core) → More w → Know w) → ((es : List Event) → Are es → Any es) → ((w : Core) → Then w → Less w)
      → Traces Spells site identity log next Know Are Then t m → Traces Spells site identity log next More Any Less t m
  trace_weaker log next Know More Then Less Are Any t m more any less traces new is =
      let from = traces new is in
      (from.0, from.1, λ w world known. (let to = from.2 w world (more w known) in record { events = to.events; are = any to.events to.are; may = to.may; world = to.world; known = less (after_all w to.events) to.known }))

  -- A run goes on by a stretch.
  module _ (log next : Log) (Know Between : Core → Type 0) (Begins : List Event → Type 0) (plan : List Event) (t u : Tale) (traces : Traces Spells site identity log next Know (IsRun Begins plan) Between t u) where
    pub more : (last : Log) (Then : Core → Type 0) (Other : List Event → Type 0) (some : List Event) (m : Tale) → ((fs : List Event) → Other fs → IsPart fs some)
        → Traces Spells site identity next last Between Other Then u m → Traces Spells site identity log last Know (IsRun Begins (plan ++ some)) Then t m
    more last Then Other some m part second =
        trace_more log next last Know Between Then (IsRun Begins plan) Other (IsRun Begins (plan ++ some)) t u m (λ es fs run other. run_more Begins plan some es fs run (part fs other)) traces second

    -- as a longer plan has it
    pub more_planned : (whole : List Event) → IsPart plan whole → Traces Spells site identity log next Know (IsRun Begins whole) Between t u
    more_planned whole within = trace_weaker log next Know Know Between Between (IsRun Begins plan) (IsRun Begins whole) t u (λ w k. k) (λ es run. run_within Begins plan whole es within run) (λ w k. k) traces

    -- nothing more is written
    pub more_same : (m : Tale) → Leaves IsSame u m → Traces Spells site identity log next Know (IsRun Begins plan) Between t m
    more_same m leaves =
        trace_more log next next Know Between Between (IsRun Begins plan) (λ es. es ≡ []) (IsRun Begins plan) t u m
        (λ es fs run none. subst (λ (l : List Event). IsRun Begins plan l) (sym (ap (λ (l : List Event). es ++ l) none ∙ append-nil es)) run) traces (trace_same next Between u m leaves)

  pub run_traced : (log next : Log) (Know Then : Core → Type 0) (Begins : List Event → Type 0) (t m : Tale) → Traces Spells site identity log next Know Begins Then t m → Traces Spells site identity log next Know (IsRun Begins []) Then t m
  run_traced log next Know Then Begins t m = trace_weaker log next Know Know Then Then Begins (IsRun Begins []) t m (λ w k. k) (λ es begins. run_begins Begins [] es begins) (λ w k. k)

  -- What the drives stand with goes on.
  module _ (log next : Log) (Know : Core → Type 0) (Are : List Event → Type 0) (Then : Core → Type 0) (t m : Tale) (covers : CoversWith Spells site identity (λ image w. Know w) log t)
      (traces : Traces Spells site identity log next Know Are Then t m) where
    pub traced : CoversWith Spells site identity (λ image w. Then w) next m
    traced image is =
        let from = traces image is in
        let w = covers from.0 from.1 in
        let to = from.2 w.0 w.1 w.2 in
        (after_all w.0 to.events, to.world, to.known)

    pub traced_covers : Covers Spells site identity next m
    traced_covers = covers_known Spells site identity (λ image w. Then w) next m traced

  pub covers_anything : (log : Log) (t : Tale) → Covers Spells site identity log t → CoversWith Spells site identity (λ image w. Anything w) log t
  covers_anything log t covers image is = (let w = covers image is in (w.0, w.1, tt))

  module _ (g : Geometry) (Know : Core → Type 0) (Are : List Event → Type 0) (Then : Core → Type 0) (After : Log → Type 0) (t m : Tale) where
    pub goes_from_trace : (Known : Log → Type 0) (asks : List (Option Change)) → ((log : Log) → Covers Spells site identity log t → Known log → CoversWith Spells site identity (λ image w. Know w) log t)
        → TracesFrom Spells g site identity Known asks Know Are Then After t m → GoesFrom Spells g site identity Known asks After t m
    goes_from_trace Known asks with traces log covers known =
        let to = traces log (with log covers known) known in
        record { es = to.es; course = to.course; come = to.come; stands = traced_covers log (log_after_all log to.es) Know Are Then t m (with log covers known) to.traces; after = to.after }

  -- A log that has gone on so goes on further.
  module _ (Which : Issue → Type 0) (g : Geometry) (asks others : List (Option Change)) (Know Between Then : Core → Type 0) (One Other Are : List Event → Type 0) (Middle After : Log → Type 0) (t u m : Tale) (log : Log) where
    pub goes_on_more : ((es fs : List Event) → One es → Other fs → Are (es ++ fs))
        → GoesTracedBy Which Spells g site identity asks Know One Between Middle t u log → ((next : Log) → Middle next → GoesTracedBy Which Spells g site identity others Between Other Then After u m next)
        → GoesTracedBy Which Spells g site identity (asks ++ others) Know Are Then After t m log
    goes_on_more both one then_goes =
        let two = then_goes (log_after_all log one.es) one.after in
        let same : log_after_all (log_after_all log one.es) two.es ≡ log_after_all log (one.es ++ two.es) = sym (after_more log_after log one.es two.es) in
        record {
          es = one.es ++ two.es;
          course = course_more log_after (MayHappen g) log one.es two.es one.course two.course;
          come = adds_more store_law.tells store_law.begins (store_law.IsIssue Which) asks others [] [] one.es two.es one.come two.come;
          traces = trace_more log (log_after_all log one.es) (log_after_all log (one.es ++ two.es)) Know Between Then One Other Are t u m both one.traces
              (subst (λ (l : Log). Traces Spells site identity (log_after_all log one.es) l Between Other Then u m) same two.traces);
          after = subst After same two.after;
        }

  pub goes_more : (g : Geometry) (asks others : List (Option Change)) (Know Between Then : Core → Type 0) (One Other Are : List Event → Type 0) (Middle After : Log → Type 0) (t u m : Tale) (log : Log) → ((es fs : List Event) → One es → Other fs → Are (es ++ fs))
      → GoesTraced Spells g site identity asks Know One Between Middle t u log → ((next : Log) → Middle next → GoesTraced Spells g site identity others Between Other Then After u m next)
      → GoesTraced Spells g site identity (asks ++ others) Know Are Then After t m log
  goes_more = goes_on_more ChangesAlone

  -- more may be issued, and be asked
  pub goes_issued : (Which Any : Issue → Type 0) (g : Geometry) (asks more : List (Option Change)) (Know Then : Core → Type 0) (Are : List Event → Type 0) (After : Log → Type 0) (t m : Tale) (log : Log) → ((issue : Issue) → Which issue → Any issue) → IsPart asks more
      → GoesTracedBy Which Spells g site identity asks Know Are Then After t m log → GoesTracedBy Any Spells g site identity more Know Are Then After t m log
  goes_issued Which Any g asks more Know Then Are After t m log weaker part goes = record {
    es = goes.es;
    course = goes.course;
    come = adds_weaker store_law.tells store_law.begins (store_law.IsIssue Which) (store_law.IsIssue Any) asks more [] goes.es (issue_weaker Which Any weaker) part goes.come;
    traces = goes.traces;
    after = goes.after;
  }
