-- A creation that the engine makes of its store, put together: its moments, its end, its answer and its calls.
use Rattle.std.proofs.Common.{◌≡◌, inl, inr, ◌≤◌, ◌<◌, ◌+◌, ◌*◌, ◌^◌, ℕ, Bool, List, length, Option, Some, None, Ok, Err, refl, sym, subst, ap, ◌∙◌, arith}
use Rattle.std.specs.Prelude.{IfSome, MatchOption}
use Rattle.mdv_shelf.proofs.Moments.{ends_both, moments_end, moments_weaker}
use Rattle.mdv_shelf.specs.Between.{RoseByAtLeast}
use Rattle.mdv_shelf.proofs.Among.{among_none}
use Rattle.mdv_shelf.specs.Drives.{KeptAmong}
use Rattle.mdv_shelf.specs.Shelves.{AtEachTale, AtEnd, DriveFailures}
use Rattle.mdv_shelf.specs.declared.shelf.Shelf.{Ghosts}
use Rattle.mdv_store.proofs.Passes.{left_as}
use Rattle.mdv_store.specs.Counts.{drives_lost}
use Rattle.mdv_acts.specs.Asked.{AreAsked, blanked_asked, drives_asked}
use Rattle.mdv_store.specs.Create.{CreateEnds, CreateMoment, IsCreated, IsCreationCounted, WereFormed, seats_asked, table_of}
use Rattle.mdv_standing.specs.Creating.{first_mark}
use Rattle.mdv_store.specs.Seats.{AreTheirs, TakesSlot}
use Rattle.mdv_store.specs.declared.creating.CreateFault.TheVariants as unmade
use Rattle.mdv_words.specs.Line.{IsCount, IsLength}
use Rattle.mdv_engine_law.specs.Answers.{accepted, refusing}
use Rattle.mdv_engine_law.specs.Efforts.{places_on}
use Rattle.mdv_engine_law.specs.Commands.{MaySpend, blame_of, blame_of_creation, blame_of_places}
use Rattle.mdv_engine_law.specs.Replies.{HasAnswerCause}
use Rattle.mdv_engine_law.specs.Line.{AreCalmBeside, Ask}
use Rattle.mdv_engine_law.specs.declared.answer.Answer.TheVariants.{Over}
use Rattle.mdv_engine_law.specs.declared.answer.Ended.TheVariants as ended
use Rattle.mdv_engine_law.specs.declared.answer.Outcome.TheVariants as outcome
use Rattle.mdv_engine_law.proofs.Allowed.{allowed_few}
use Rattle.mdv_engine_law.proofs.Plain.{fault_plain, memory_plain}
use Rattle.mdv_engine.specs.Below.{Answer, AreInForm, AreLaid, CameTo, CarriedTo, CarryMoment, AddPlaces, CreateFault, Identity, IoFault, IsAllowed, IsOpenedAt, IsReady, Key, Knows, Memory, Opened, OutOfMemory, Seat, SliceLine, SliceName, Table, Tale, active_of, identity_of, kept_at, key_of, lines_asked, OnDrive, record_bytes}
use Rattle.mdv_engine.specs.Counts.{IsCommandCounted, WereMadeInTurn, WereTried}
use Rattle.mdv_places.specs.Asked.{Adds}
use Rattle.mdv_engine_law.specs.Standing.{LeavesFormed}
use Rattle.mdv_engine.specs.Ends.{AsksPlaces, CarriedOut, HasAnswered, KeptAsAsked, LeavesBoth, LeavesMade, LeavesReplicas, WasCarriedOut, drives_more, made_at}
use Rattle.mdv_engine.specs.Engine.{IsHeldBy, IsLostOnSite, IsWell, answer_of, case_at}
use Rattle.mdv_engine.specs.declared.engine.Engine.{Engine}
use Rattle.mdv_engine.proofs.Blocks.{moments_still}
use Rattle.mdv_engine.proofs.Counting as counting
use Rattle.mdv_engine.proofs.Creating as creating
use Rattle.mdv_engine.proofs.Creating.{IsAskOf, begun, with_new}
use Rattle.mdv_engine.proofs.Ending.{command_ends, done_ends, lost_ends}
use Rattle.mdv_engine.proofs.Formats.{formed_calls}
use Rattle.mdv_store.specs.Shares.{short_of}
use Rattle.mdv_store.specs.declared.seats.Need.TheVariants.{Half}

-- what is told of the engine as it stands is so of the one before
pub to_old : (v e : Engine) → e ≡ v → (lines : List SliceLine) (slices : List SliceName) → lines ≡ lines_asked e.host slices → (P : Key → Identity → List SliceLine → Type 0)
    → P (key_of e.host) (identity_of e.host e.state.begun) lines → P (key_of v.host) (identity_of v.host v.state.begun) (lines_asked v.host slices)
to_old v e is lines slices lines_is P it =
    subst (λ (x : Engine). P (key_of x.host) (identity_of x.host x.state.begun) (lines_asked x.host slices)) is (subst (λ (ls : List SliceLine). P (key_of e.host) (identity_of e.host e.state.begun) ls) lines_is it)

-- and the other way
pub asked_now : (v e : Engine) → e ≡ v → (lines : List SliceLine) (slices : List SliceName) → lines ≡ lines_asked e.host slices → (sizes : List ℕ) (count blocks : ℕ) → AreAsked sizes (lines_asked v.host slices) count blocks → AreAsked sizes lines count blocks
asked_now v e is lines slices lines_is sizes count blocks asked = subst (λ (ls : List SliceLine). AreAsked sizes ls count blocks) (sym (lines_is ∙ ap (λ (x : Engine). lines_asked x.host slices) is)) asked

-- the numbers of two answers are the same
pub moved : (P : ℕ → ℕ → Type 0) (a b c d : ℕ) → Over (ended.Lost a b) ≡ Over (ended.Lost c d) → P a b → P c d
moved P a b c d is it =
    let one : a ≡ c = cc (is) in
    let two : b ≡ d = cc (is) in
    subst (λ (n : ℕ). P n d) one (subst (λ (n : ℕ). P a n) two it)

same_most : (n : ℕ) → n ≤ n
same_most n = omega arith

within_one : (n : ℕ) → n + 1 < 2 ^ 32 → n < 2 ^ 32
within_one n small = omega (arith, small)

module _ {S : Type 0} (shelf : Ghosts S) (a b : S) (v : Engine) (ready : IsReady v.host (shelf.sizes a)) (slices : List SliceName) (count blocks : ℕ) (form : (1 ≤ length slices) × IsCount count × IsLength blocks) (small : v.state.begun + 1 < 2 ^ 32) (entries : AreInForm v.state.entries) (none : v.state.opened ≡ None) where
  abbrev key : Key
  key = key_of v.host

  abbrev identity : Identity
  identity = identity_of v.host v.state.begun

  abbrev lines : List SliceLine
  lines = lines_asked v.host slices

  abbrev Free : Bool → Type 0
  Free force = IsAllowed (case_at v) (AddPlaces slices force count blocks)

  abbrev now : Memory → Engine
  now memory = record { host = v.host; state = memory }

  -- why it is so where none is open
  by_none : (force : Bool) (answer : Answer) → HasAnswerCause (blame_of_creation (DriveFailures shelf a b) v.host v.state lines count blocks) ⊥ answer
      → HasAnswerCause (blame_of (DriveFailures shelf a b) v.host v.state (AddPlaces slices force count blocks)) (MaySpend v.state (AddPlaces slices force count blocks)) answer
  by_none force answer cause = subst (λ (x : Option Opened). HasAnswerCause (blame_of_places (DriveFailures shelf a b) v.host v.state x lines count blocks) (MatchOption x ⊥ (λ o. Unit {0})) answer) (sym none) cause

  -- the end of a line that asks this
  abbrev EndsAs : Ask → Bool → Answer → Engine → Type 0
  EndsAs ask force answer new = AtEnd shelf (CarriedOut (DriveFailures shelf a b) v.host ask (AddPlaces slices force count blocks) v.state answer new.state) a b

  -- memory was wanting before anything was done
  pub wanting_ends : (ask : Ask) (force : Bool) → Free force → shelf.tale b ≡ shelf.tale a → ((drive : ℕ) → (DriveFailures shelf a b drive).none) → EndsAs ask force (refusing OutOfMemory) (now (begun v.state))
  wanting_ends ask force free same calm = command_ends (DriveFailures shelf a b) v ask (AddPlaces slices force count blocks) (outcome.Refused OutOfMemory) (now (begun v.state)) (shelf.tale a) (shelf.tale b)
      (creating.unbegun_line v.host v.state slices force count blocks none (shelf.tale a) (shelf.tale b) same free (DriveFailures shelf a b) calm)
      (creating.unbegun_carried v.host v.state slices force count blocks none (shelf.tale a) (shelf.tale b) same ask)
      (λ on u. absurd on) (λ is u. tt)

  few_asked : (force : Bool) × Free force → length slices * count ≤ 50
  few_asked (force, free) = allowed_few (case_at v) slices force count blocks free

  module _ (held : (force : Bool) × Free force) where
    well_begun : IsWell v.host (begun v.state)
    well_begun = record { entries = entries; database = subst (λ (o : Option Opened). IfSome o (IsHeldBy v.host)) (sym none) tt }

    pub wanting_answer : ((drive : ℕ) → (DriveFailures shelf a b drive).none) → (force : Bool) → HasAnswered (DriveFailures shelf a b) (AddPlaces slices force count blocks) v (refusing OutOfMemory) (now (begun v.state))
    wanting_answer calm force = record { plain = memory_plain; cause = by_none force (refusing OutOfMemory) calm; lost = λ one two is. absurd (cc (is)); free = λ on has closed. absurd on; few = inl tt; host = refl; well = λ on. well_begun; begun = same_most (v.state.begun + 1) }

    pub creation_moments : (ask : Ask) → IsAskOf v.host v.state lines count blocks ask → AtEachTale shelf (CreateMoment key identity lines count blocks) a b → AtEachTale shelf (CarryMoment v.host ask v.state) a b
    creation_moments ask is moments = moments_weaker (CreateMoment key identity lines count blocks) (CarryMoment v.host ask v.state) (shelf.tale a) (shelf.tale b)
        (λ t m moment. creating.making_moment v.host (shelf.sizes a) ready v.state slices held.0 count blocks held.1 form.0 form.1 form.2 none t m moment ask is) moments

    -- it was made
    module _ (kept : KeptAmong shelf a b (drives_asked lines)) (o : Opened) (created : IsCreated shelf a b key identity lines count blocks (Ok o)) where
      pub made_answer : (force : Bool) → HasAnswered (DriveFailures shelf a b) (AddPlaces slices force count blocks) v accepted (now (with_new v.state o))
      made_answer force = record {
        plain = tt;
        cause = by_none force accepted (creating.calm_beside shelf a b (drives_asked lines) kept);
        lost = λ one two is. absurd (cc (is));
        free = λ on has closed. (none, creating.clean v.host (shelf.sizes a) ready v.state slices held.0 count blocks held.1 form.0 form.1 form.2 none);
        few = inr (few_asked held);
        host = refl;
        well = λ on. record { entries = entries; database = creating.made_held v.host (shelf.sizes a) ready v.state slices held.0 count blocks held.1 form.0 form.1 form.2 none (DriveFailures shelf a b) o created.came (subst (λ (s : List ℕ). AreLaid s o.seats) kept.keeps.same_sizes created.formed.2) };
        begun = same_most (v.state.begun + 1);
      }

  module _ (ask : Ask) (is_ask : IsAskOf v.host v.state lines count blocks ask) (force : Bool) (free : Free force) (kept : KeptAmong shelf a b (drives_asked lines)) (moments : AtEachTale shelf (CreateMoment key identity lines count blocks) a b) where
    calm : AreCalmBeside (drives_asked lines) (DriveFailures shelf a b)
    calm = creating.calm_beside shelf a b (drives_asked lines) kept

    -- with the last moment
    with_moment : (E R : Tale → Tale → Type 0) → ((t u : Tale) → CreateMoment key identity lines count blocks t u → E t u → R t u) → AtEnd shelf E a b → AtEnd shelf R a b
    with_moment E R join ends = ends_both (CreateMoment key identity lines count blocks) E R (shelf.tale a) (shelf.tale b) join (moments_end (CreateMoment key identity lines count blocks) (shelf.tale a) (shelf.tale b) moments) ends

    -- with each place formatted
    abbrev Formed : Tale → Type 0
    Formed u = AreTheirs v.host.drives key identity (seats_asked key identity lines count blocks) u

    with_formed : (E : Tale → Tale → Type 0) → WereFormed shelf a b key identity lines count blocks → AtEnd shelf E a b → AtEnd shelf (λ t u. E t u × Formed u) a b
    with_formed E formed ends = ends_both E (λ t u. Formed u) (λ t u. E t u × Formed u) (shelf.tale a) (shelf.tale b) (λ t u end its. (end, its)) ends
        (creating.formed_end v.host (shelf.sizes a) ready v.state slices force count blocks free form.0 form.1 form.2 none shelf a b (within_one v.state.begun small) formed)

    formed_done : AtEnd shelf (λ t u. Formed u) a b → AtEnd shelf (λ t u. Knows v.host v.state t → LeavesFormed v.host v.state v.state.opened lines count blocks u) a b
    formed_done ends t start = (let end = ends t start in (end.0, end.1, λ known. subst (λ (x : Option Opened). LeavesFormed v.host v.state x lines count blocks end.0) (sym none) end.2))

    pub made_ends : (o : Opened) → IsCreated shelf a b key identity lines count blocks (Ok o) → AtEnd shelf (CreateEnds key identity lines count blocks (Ok o)) a b → EndsAs ask force accepted (now (with_new v.state o))
    made_ends o created ends =
        let all = with_formed (CreateEnds key identity lines count blocks (Ok o)) created.formed.0 ends in
        done_ends (DriveFailures shelf a b) v ask (AddPlaces slices force count blocks) accepted (now (with_new v.state o)) (shelf.tale a) (shelf.tale b)
        (with_moment (λ t u. CreateEnds key identity lines count blocks (Ok o) t u × Formed u) (λ t u. Knows v.host v.state t → CameTo (DriveFailures shelf a b) v.host (kept_at v.state t) (AddPlaces slices force count blocks) accepted (kept_at (with_new v.state o) u))
        (λ t u moment end known. creating.made_line v.host (shelf.sizes a) ready v.state slices force count blocks free form.0 form.1 form.2 none t u moment (DriveFailures shelf a b) o created.came calm end.0 end.1) all)
        (with_moment (λ t u. CreateEnds key identity lines count blocks (Ok o) t u × Formed u) (CarriedTo v.host ask v.state accepted (with_new v.state o))
        (λ t u moment end. creating.made_carried v.host (shelf.sizes a) ready v.state slices force count blocks free form.0 form.1 form.2 none t u moment (DriveFailures shelf a b) o created.came calm end.0 end.1 ask is_ask) all)
        (λ active listed is. absurd (cc (is)))
        (formed_done (creating.formed_end v.host (shelf.sizes a) ready v.state slices force count blocks free form.0 form.1 form.2 none shelf a b (within_one v.state.begun small) created.formed.0))
        (λ is u. tt)

    failed_ends : IsCreated shelf a b key identity lines count blocks (Err unmade.Failed) → AtEnd shelf (CreateEnds key identity lines count blocks (Err unmade.Failed)) a b → EndsAs ask force (refusing IoFault) (now (begun v.state))
    failed_ends created ends = command_ends (DriveFailures shelf a b) v ask (AddPlaces slices force count blocks) (outcome.Refused IoFault) (now (begun v.state)) (shelf.tale a) (shelf.tale b)
        (with_moment (CreateEnds key identity lines count blocks (Err unmade.Failed)) (λ t u. Knows v.host v.state t → CameTo (DriveFailures shelf a b) v.host (kept_at v.state t) (AddPlaces slices force count blocks) (refusing IoFault) (kept_at (begun v.state) u))
        (λ t u moment end known. creating.failed_line v.host (shelf.sizes a) ready v.state slices force count blocks free form.0 form.1 form.2 none t u moment (DriveFailures shelf a b) created.came end) ends)
        (with_moment (CreateEnds key identity lines count blocks (Err unmade.Failed)) (CarriedTo v.host ask v.state (refusing IoFault) (begun v.state))
        (λ t u moment end. creating.failed_carried v.host (shelf.sizes a) ready v.state slices force count blocks free form.0 form.1 form.2 none t u moment (DriveFailures shelf a b) created.came end ask is_ask) ends)
        (λ on u. absurd on) (λ is u. tt)

    given_up : (active listed : ℕ) → IsCreated shelf a b key identity lines count blocks (Err (unmade.Lost active listed)) → EndsAs ask force (Over (ended.Lost active listed)) (now (begun v.state))
    given_up active listed created =
        let found = creating.leaves v.host (shelf.sizes a) ready v.state slices force count blocks free form.0 form.1 form.2 none shelf a b (within_one v.state.begun small) created.formed.0 active listed created.formed.1 in
        let open_at = λ (t u : Tale). IsOpenedAt v.host.drives (made_at v.host v.state.begun lines count blocks found.0.now) u in
        let all = with_formed open_at created.formed.0 found.1 in
        let both = λ (t u : Tale). open_at t u × Formed u in
        lost_ends (DriveFailures shelf a b) v ask (AddPlaces slices force count blocks) (Over (ended.Lost active listed)) (now (begun v.state)) (shelf.tale a) (shelf.tale b)
        (with_moment both (λ t u. Knows v.host v.state t → CameTo (DriveFailures shelf a b) v.host (kept_at v.state t) (AddPlaces slices force count blocks) (Over (ended.Lost active listed)) (kept_at (begun v.state) u))
        (λ t u moment left known. creating.lost_line v.host (shelf.sizes a) ready v.state slices force count blocks free form.0 form.1 form.2 none t u moment (DriveFailures shelf a b) active listed found.0 calm left.1 left.0) all)
        (moments_end (CarriedTo v.host ask v.state (Over (ended.Lost active listed)) (begun v.state)) (shelf.tale a) (shelf.tale b)
        (moments_weaker (CreateMoment key identity lines count blocks) (CarriedTo v.host ask v.state (Over (ended.Lost active listed)) (begun v.state)) (shelf.tale a) (shelf.tale b)
        (λ t m moment. creating.lost_carried v.host (shelf.sizes a) ready v.state slices force count blocks free form.0 form.1 form.2 none t m moment ask is_ask active listed (begun v.state)) moments))
        (λ on. on)
        (with_moment both (λ t u. Knows v.host v.state t → (one two : ℕ) → Over (ended.Lost active listed) ≡ Over (ended.Lost one two) → LeavesMade (DriveFailures shelf a b) v.host v.state (AddPlaces slices force count blocks) one two u)
        (λ t u moment left known one two is. moved (λ (x y : ℕ). LeavesMade (DriveFailures shelf a b) v.host v.state (AddPlaces slices force count blocks) x y u) active listed one two is (subst (λ (x : Option Opened). MatchOption x (LeavesReplicas (DriveFailures shelf a b) v.host v.state.begun lines count blocks active listed u) (λ old. LeavesBoth (DriveFailures shelf a b) v.host old (Adds lines count blocks) active listed u)) (sym none) (record { lost = found.0; formed = left.1; left = left.0 }))) all)
        (λ is u. tt)

    -- what became of it where it isn't made
    unmade_by : (fault : CreateFault) → IsCreated shelf a b key identity lines count blocks (Err fault) → AtEnd shelf (CreateEnds key identity lines count blocks (Err fault)) a b → IsCreationCounted shelf a b lines count blocks (Err fault)
        → EndsAs ask force (answer_of fault) (now (begun v.state))
    unmade_by unmade.Failed created ends counted = failed_ends created ends
    unmade_by (unmade.Lost active listed) created ends counted = given_up active listed created
    unmade_by unmade.Memory created ends counted = wanting_ends ask force free (ap shelf.tale counted) created.came

    pub unmade_ends : (fault : CreateFault) (answer : Answer) → answer ≡ answer_of fault → IsCreated shelf a b key identity lines count blocks (Err fault) → AtEnd shelf (CreateEnds key identity lines count blocks (Err fault)) a b → IsCreationCounted shelf a b lines count blocks (Err fault)
        → EndsAs ask force answer (now (begun v.state))
    unmade_ends fault answer is created ends counted = subst (λ (x : Answer). EndsAs ask force x (now (begun v.state))) (sym is) (unmade_by fault created ends counted)

  module _ (held : (force : Bool) × Free force) (kept : KeptAmong shelf a b (drives_asked lines)) where
    abbrev Answered : Bool → Answer → Type 0
    Answered force answer = HasAnswered (DriveFailures shelf a b) (AddPlaces slices force count blocks) v answer (now (begun v.state))

    unmade_said : (fault : CreateFault) → IsCreated shelf a b key identity lines count blocks (Err fault) → (force : Bool) → Answered force (answer_of fault)
    unmade_said unmade.Failed created force = record { plain = fault_plain; cause = by_none force (refusing IoFault) created.came; lost = λ one two is. absurd (cc (is)); free = λ on has closed. absurd on; few = inr (few_asked held); host = refl; well = λ on. well_begun held; begun = same_most (v.state.begun + 1) }
    unmade_said (unmade.Lost active listed) created force = record {
      plain = tt;
      cause = by_none force (Over (ended.Lost active listed)) (created.came, creating.calm_beside shelf a b (drives_asked lines) kept);
      lost = λ one two is. moved (λ (x y : ℕ). IsLostOnSite (DriveFailures shelf a b) v.host x y) active listed one two is
          (creating.lost_on v.host (shelf.sizes a) ready v.state slices held.0 count blocks held.1 form.0 form.1 form.2 none (DriveFailures shelf a b) active listed created.came);
      free = λ on has closed. absurd on;
      few = inr (few_asked held);
      host = refl;
      well = λ on. absurd on;
      begun = same_most (v.state.begun + 1);
    }
    unmade_said unmade.Memory created force = wanting_answer held created.came force

    pub unmade_answer : (fault : CreateFault) (answer : Answer) → answer ≡ answer_of fault → IsCreated shelf a b key identity lines count blocks (Err fault) → (force : Bool) → Answered force answer
    unmade_answer fault answer is created force = subst (Answered force) (sym is) (unmade_said fault created force)

  abbrev Counted : Bool → Answer → Option Opened → Type 0
  Counted force answer opened = IsCommandCounted shelf a b v.host (AddPlaces slices force count blocks) answer None opened

  abbrev CountedAs : Bool → Answer → Option Opened → Type 0
  CountedAs force answer opened = IsCommandCounted shelf a b v.host (AddPlaces slices force count blocks) answer v.state.opened opened

  counted_none : (force : Bool) (answer : Answer) (opened : Option Opened) → Counted force answer opened → CountedAs force answer opened
  counted_none force answer opened counted = subst (λ (x : Option Opened). IsCommandCounted shelf a b v.host (AddPlaces slices force count blocks) answer x opened) (sym none) counted

  in_turn : (formed : WereFormed shelf a b key identity lines count blocks) → WereMadeInTurn shelf a b key identity lines count blocks formed.now
  in_turn formed = record { formed = formed.formed; gone = formed.gone; steps = formed.steps }

  -- how it was written to each place, behind the formats
  tried : (active listed : ℕ) → (f : WereFormed shelf a b key identity lines count blocks) × (short_of Half f.now (table_of (seats_asked key identity lines count blocks)).plan.lists ≡ Some (record { active = active; listed = listed }))
      → WereTried shelf a b (WereMadeInTurn shelf a b key identity lines count blocks) (seats_asked key identity lines count blocks) (table_of (seats_asked key identity lines count blocks)).plan.lists active listed
  tried active listed (formed, few) = record {
    now = formed.now;
    left = left_as (DriveFailures shelf a b) (DriveFailures shelf a b) (TakesSlot first_mark (record_bytes (table_of (seats_asked key identity lines count blocks)))) (λ r n. Unit {0}) (seats_asked key identity lines count blocks) formed.now
        (λ r has some. some) (λ r has none. none) (λ r n took. tt) formed.tried;
    few = few;
    steps = in_turn formed;
  }

  unmade_calls : (fault : CreateFault) → IsCreated shelf a b key identity lines count blocks (Err fault) → IsCreationCounted shelf a b lines count blocks (Err fault) → (force : Bool) (opened : Option Opened) → Counted force (answer_of fault) opened
  unmade_calls unmade.Failed created counted force opened = counting.formats_fault shelf a b v.host slices force count blocks None opened counted
  unmade_calls (unmade.Lost active listed) created counted force opened = (counted, (identity, tried active listed created.formed))
  unmade_calls unmade.Memory created counted force opened = (counting.none_within shelf a b 0 0 counted, ap shelf.tale counted)

  pub unmade_counted : (fault : CreateFault) (answer : Answer) → answer ≡ answer_of fault → IsCreated shelf a b key identity lines count blocks (Err fault) → IsCreationCounted shelf a b lines count blocks (Err fault) → (force : Bool) (opened : Option Opened) → CountedAs force answer opened
  unmade_counted fault answer is created counted force opened = counted_none force answer opened (subst (λ (x : Answer). Counted force x opened) (sym is) (unmade_calls fault created counted force opened))

  -- those of one that is done, told of what it made
  module _ (o : Opened) (created : IsCreated shelf a b key identity lines count blocks (Ok o)) where
    abbrev f : WereFormed shelf a b key identity lines count blocks
    f = created.formed.0

    -- told of the database and its places
    of_made : (P : Key → Identity → Table → List Seat → Type 0) → P key identity (table_of (seats_asked key identity lines count blocks)) f.now → P o.key o.identity o.table o.seats
    of_made P it =
        let seats = subst (λ (ss : List Seat). P key identity (table_of (seats_asked key identity lines count blocks)) ss) created.formed.1 it in
        subst (λ (x : Opened). P x.key x.identity x.table o.seats) (sym created.came.is) seats

    pub made_counted : IsCreationCounted shelf a b lines count blocks (Ok o) → (force : Bool) → CountedAs force accepted (Some o)
    made_counted counted force = counted_none force accepted (Some o) (record {
      exactly = record {
        all = counted.0;
        some = record {
          at_least = of_made (λ k i t ss. RoseByAtLeast (2 * blanked_asked lines count + 6 * places_on lines count + (6 * active_of ss + drives_lost (seats_asked k i lines count blocks) ss)) (shelf.calls a) (shelf.calls b)) (formed_calls shelf a b key identity lines count blocks form.1.0 f);
          at_most = counted.1.at_most;
        };
      };
      most = counting.creation_most shelf a b v.host slices count _ counted.1;
      wrote = of_made (λ k i t ss. WereMadeInTurn shelf a b k i lines count blocks ss) (in_turn f);
    })

  -- So it was carried out for a line that asks these places.
  module _ (ask : Ask) (of : AsksPlaces v slices count blocks ask) (force : Bool) (free : Free force) where
    abbrev Out : Answer → Engine → Type 0
    Out answer new = WasCarriedOut shelf a b ask (AddPlaces slices force count blocks) v answer new

    is_ask : IsAskOf v.host v.state lines count blocks ask
    is_ask = creating.ask_of v slices count blocks ask of

    kept_so : KeptAmong shelf a b (drives_asked lines) → KeptAsAsked shelf a b v.host v.state (AddPlaces slices force count blocks)
    kept_so kept = subst (λ (x : Option Opened). KeptAmong shelf a b (drives_more v.host x lines count blocks)) (sym none) kept

    -- memory was wanting for the lines
    pub wanting_out : b ≡ a → Out (refusing OutOfMemory) (now (begun v.state))
    wanting_out same = record {
      moments = moments_still v.host ask v.state (shelf.tale a) (shelf.tale b) (ap shelf.tale same);
      end = wanting_ends ask force free (ap shelf.tale same) calm;
      answer = wanting_answer (force, free) calm force;
      counted = counted_none force (refusing OutOfMemory) v.state.opened (counting.none_within shelf a b 0 0 same, ap shelf.tale same);
      kept = kept_so (subst (λ (x : S). KeptAmong shelf a x (drives_asked lines)) (sym same) (among_none shelf a (drives_asked lines)));
    } where
      calm : (drive : ℕ) → (DriveFailures shelf a b drive).none
      calm drive = ap (λ (x : S). shelf.faults x (OnDrive drive)) same

    module _ (kept : KeptAmong shelf a b (drives_asked lines)) (moments : AtEachTale shelf (CreateMoment key identity lines count blocks) a b) where
      pub made_out : (o : Opened) → IsCreated shelf a b key identity lines count blocks (Ok o) → AtEnd shelf (CreateEnds key identity lines count blocks (Ok o)) a b → IsCreationCounted shelf a b lines count blocks (Ok o) → Out accepted (now (with_new v.state o))
      made_out o created ends counted = record {
        moments = creation_moments (force, free) ask is_ask moments;
        end = made_ends ask is_ask force free kept moments o created ends;
        answer = made_answer (force, free) kept o created force;
        counted = made_counted o created counted force;
        kept = kept_so kept;
      }

      pub unmade_out : (fault : CreateFault) (answer : Answer) → answer ≡ answer_of fault → IsCreated shelf a b key identity lines count blocks (Err fault) → AtEnd shelf (CreateEnds key identity lines count blocks (Err fault)) a b → IsCreationCounted shelf a b lines count blocks (Err fault)
          → Out answer (now (begun v.state))
      unmade_out fault answer is created ends counted = record {
        moments = creation_moments (force, free) ask is_ask moments;
        end = unmade_ends ask is_ask force free kept moments fault answer is created ends counted;
        answer = unmade_answer (force, free) kept fault answer is created force;
        counted = unmade_counted fault answer is created counted force v.state.opened;
        kept = kept_so kept;
      }
