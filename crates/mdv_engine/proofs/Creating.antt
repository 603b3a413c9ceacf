-- What a creation of the host's database leaves, told of the host.
use Rattle.std.specs.Prelude.{MatchOption}
use Rattle.std.proofs.Common.{◌≡◌, ◌⊎◌, inl, inr, ◌≤◌, ◌<◌, ◌+◌, ◌*◌, ◌^◌, ℕ, Bool, true, List, [], ◌∷◌, length, Option, Some, None, Ok, Err, Contains, refl, sym, subst, ap, ◌∙◌, arith, map}
use Rattle.std.proofs.lemmas.List.Elements.{All-contains}
use Rattle.mdv_base.specs.Name.{IsName}
use Rattle.mdv_databases.proofs.Creating as databases
use Rattle.mdv_databases.specs.Creating.{IsCreation}
use Rattle.mdv_databases.specs.Going.{GoOn}
use Rattle.mdv_volumes.specs.Databases.{Database, with_creation}
use Rattle.mdv_store.specs.Commit.{AnyLog}
use Rattle.mdv_home.proofs.Read.{read_table}
use Rattle.mdv_name.specs.Entry.{IsHostName}
use Rattle.mdv_replica.specs.Forms.{name_of_key}
use Rattle.mdv_shelf.proofs.Blocks.{both_ways}
use Rattle.mdv_shelf.proofs.Moments.{moments_end}
use Rattle.mdv_shelf.specs.Drives.{IsAmong, KeptAmong}
use Rattle.mdv_shelf.specs.Shelves.{AtEnd, DriveFailures}
use Rattle.mdv_shelf.specs.declared.shelf.Shelf.{Ghosts}
use Rattle.mdv_shown.proofs.Elsewhere.{places_step}
use Rattle.mdv_shown.specs.Site.{size_on}
use Rattle.mdv_standing.specs.Creating.{first_mark}
use Rattle.mdv_acts.proofs.Asked.{few_of}
use Rattle.mdv_store.proofs.Adoptions.{same_identity_self}
use Rattle.mdv_store.proofs.Formed.{made_opened}
use Rattle.mdv_store.proofs.Given.{IsOwner}
use Rattle.mdv_store.proofs.Reading.{same_identity_is}
use Rattle.mdv_store.proofs.Seated.{replica_is}
use Rattle.mdv_store.proofs.Sitting.{left_count, left_replica}
use Rattle.mdv_store.proofs.Spotting.{asked_active, asked_length}
use Rattle.mdv_store.specs.Create as create
use Rattle.mdv_acts.specs.Asked.{AreAsked, drives_asked}
use Rattle.mdv_store.specs.Create.{CreateEnds, CreateMoment, MayForm, StayFormed, WereFormed, seats_asked, table_of}
use Rattle.mdv_store.specs.Blank.{IsBlank}
use Rattle.mdv_store.specs.Seats.{AreLeft, AreTheirs, TakesSlot}
use Rattle.mdv_store.specs.declared.creating.CreateFault.TheVariants as unmade
use Rattle.mdv_survey.specs.Choice.{same_identity}
use Rattle.mdv_words.specs.Line.{IsCount, IsLength}
use Rattle.mdv_engine_law.specs.Answers.{accepted, refusing}
use Rattle.mdv_engine_law.specs.Commands as came
use Rattle.mdv_places.specs.Asked.{Adds, names_of}
use Rattle.mdv_shelf.proofs.Frame.{kept_outside_wider}
use Rattle.mdv_shelf.specs.Area.{joined}
use Rattle.mdv_store_law.specs.Changes as changes
use Rattle.mdv_volumes.proofs.Lists.{contains_first}
use Rattle.mdv_engine_law.specs.Commands.{LeavesPlaces}
use Rattle.mdv_engine_law.specs.Hosts.{listed_area}
use Rattle.mdv_engine_law.specs.Line.{AreCalmBeside, Ask, IsCreated, IsUnbegun, IsUncreated, Stays, deeds}
use Rattle.mdv_engine_law.specs.Moves.{HasMovedOn, IsUnmovedOn, LeavesLists}
use Rattle.mdv_engine_law.specs.Replies.{AcksAnswer}
use Rattle.mdv_engine_law.specs.Standing.{WritesOnly}
use Rattle.mdv_engine_law.proofs.Within.{places_on_site}
use Rattle.mdv_engine_law.specs.Refusals.{Case}
use Rattle.mdv_engine_law.specs.declared.answer.Answer.TheVariants.{Over}
use Rattle.mdv_engine_law.specs.declared.answer.Ended.TheVariants as ended
use Rattle.mdv_engine_law.proofs.Allowed.{allowed_clean, either_left}
use Rattle.mdv_engine_law.proofs.Keeping.{created, leaves_places, uncreated}
use Rattle.mdv_engine_law.proofs.Making as making
use Rattle.mdv_engine_law.proofs.Places.{asked_kept}
use Rattle.mdv_engine_law.proofs.Placing.{asked, asked_on_site, asked_placed, asked_within}
use Rattle.mdv_engine_law.proofs.Refusing.{refused_still}
use Rattle.mdv_engine.specs.Below.{AreCalm, AreLaid, CameTo, CarriedTo, CarryMoment, AddPlaces, Changed, Created, Deed, DriveNo, Ends, Host, Identity, IoFault, IsAllowed, IsOfGeometry, IsOpenedAt, IsReady, Key, KeptOutside, Knows, Memory, OnDrive, Opened, OutOfMemory, Outcomes, Replica, Replicas, Seat, Site, SliceLine, SliceName, Tale, identity_of, kept_at, key_of, lines_asked, opened_area, places_area, record_bytes, replicas_of, site_area}
use Rattle.mdv_engine.specs.Ends.{AsksPlaces, by_entry, by_slices, made_at}
use Rattle.mdv_engine.specs.declared.engine.Engine.{Engine}
use Rattle.mdv_engine.specs.Engine.{IsHeldBy, IsLostOnSite, LiesOn}
use Rattle.mdv_engine.proofs.Losing.{lost_on_site}
use Rattle.mdv_store.specs.Shares.{short_of}
use Rattle.mdv_store.specs.declared.seats.Need.TheVariants.{Half}
use Rattle.mdv_store.proofs.Shares.{half_none}

-- no call failed on a drive beside those on which some were made
pub calm_beside : {S : Type 0} (shelf : Ghosts S) (a b : S) (drives : List DriveNo) → KeptAmong shelf a b drives → AreCalmBeside drives (DriveFailures shelf a b)
calm_beside shelf a b drives kept drive other = kept.others (OnDrive drive.0) (λ among. other (same among)) where
  same : IsAmong drives (OnDrive drive.0) → Contains drives drive
  same (d, one_of, is) = let number : drive.0 ≡ d.0 = cc (is) in subst (λ (x : DriveNo). Contains drives x) (λ i. record { 0 = sym number i }) one_of

identities : (a b : Identity) → (a ≡ b) ⊎ (a ≡ b → ⊥)
identities a b = elim (both_ways (same_identity a b)) [
  | inl is ↦ inl (same_identity_is a b is)
  | inr not ↦ inr (λ (same : a ≡ b). absurd (let itself : same_identity a b ≡ true = subst (λ (x : Identity). same_identity a x ≡ true) same (same_identity_self a) in cc (itself, not)))
]

-- what is in memory once a creation was begun, and once it made a database
abbrev pub begun : Memory → Memory
begun memory = record memory { begun = memory.begun + 1 }

abbrev pub with_new : Memory → Opened → Memory
with_new memory o = record memory { opened = Some o; begun = memory.begun + 1 }

one_more : (n : ℕ) → n < n + 1
one_more n = omega arith

-- the host's name is one
pub owner : (host : Host) (sizes : List ℕ) → IsReady host sizes → (number : ℕ) → number < 2 ^ 32 → IsOwner (key_of host) (identity_of host number)
owner host sizes ready number small = record {
  fresh = ready.fresh;
  number = small;
  name = subst (λ (k : Key). IsName (name_of_key k)) (sym ready.key) (All-contains IsHostName ready.table.hosts ready.name (read_table ready.text ready.table ready.read).hosts ready.one_of).0;
}

-- What a line asks that may come to a creation: it may begin one, its `ok` may tell it, and it may write where the places lie.
pub record IsAskOf (host : Host) (memory : Memory) (lines : List SliceLine) (count blocks : ℕ) (ask : Ask) : Type 0 where
  pub rest : List Deed
  pub asks : deeds ask ≡ Created (key_of host) ∷ rest
  pub acks : AcksAnswer ask accepted (Created (key_of host) ∷ [])
  pub writes : (t m : Tale) → KeptOutside (site_area host.site) t m → KeptOutside (places_area lines count blocks) t m → WritesOnly host ask memory t m

-- so does a line that says the slices itself, and one that names an entry which is kept and says them
pub ask_of : (v : Engine) (slices : List SliceName) (count blocks : ℕ) (ask : Ask) → AsksPlaces v slices count blocks ask → IsAskOf v.host v.state (lines_asked v.host slices) count blocks ask
ask_of v slices count blocks ask (by_slices is) = subst (IsAskOf v.host v.state (lines_asked v.host slices) count blocks) (sym is) (record {
  rest = Changed (key_of v.host) (changes.AddPlaces (names_of (lines_asked v.host slices)) count blocks) ∷ [];
  asks = refl;
  acks = (Created (key_of v.host), contains_first (Created (key_of v.host)) (Changed (key_of v.host) (changes.AddPlaces (names_of (lines_asked v.host slices)) count blocks) ∷ []), refl);
  writes = λ t m on kept. (
    on,
    kept_outside_wider (places_area (lines_asked v.host slices) count blocks) (joined (places_area (lines_asked v.host slices) count blocks) (opened_area v.state.opened)) t m
        (λ drive block out. either_left (places_area (lines_asked v.host slices) count blocks drive block) (opened_area v.state.opened drive block) out) kept,
  );
})
ask_of v slices count blocks ask (by_entry number said is) = subst (IsAskOf v.host v.state (lines_asked v.host slices) count blocks) (sym is) (record {
  rest = Changed (key_of v.host) (changes.AddListed number) ∷ [];
  asks = refl;
  acks = (Created (key_of v.host), contains_first (Created (key_of v.host)) (Changed (key_of v.host) (changes.AddListed number) ∷ []), refl);
  writes = λ t m on kept. (
    on,
    subst (λ (x : Option Replicas). KeptOutside (joined (listed_area v.host x) (opened_area v.state.opened)) t m) (sym said)
        (kept_outside_wider (places_area (lines_asked v.host slices) count blocks) (joined (places_area (lines_asked v.host slices) count blocks) (opened_area v.state.opened)) t m
        (λ drive block out. either_left (places_area (lines_asked v.host slices) count blocks drive block) (opened_area v.state.opened drive block) out) kept),
  );
})

-- A creation that nothing refuses, on some slices.
module _ (host : Host) (sizes : List ℕ) (ready : IsReady host sizes) (memory : Memory) (slices : List SliceName) (force : Bool) (count blocks : ℕ) (free : IsAllowed (record { host = host; memory = memory }) (AddPlaces slices force count blocks))
    (some : 1 ≤ length slices) (more : IsCount count) (sized : IsLength blocks) (none : memory.opened ≡ None) where
  abbrev case : Case
  case = record { host = host; memory = memory }

  abbrev key : Key
  key = key_of host

  abbrev identity : Identity
  identity = identity_of host memory.begun

  abbrev lines : List SliceLine
  lines = lines_asked host slices

  abbrev seats : List Seat
  seats = seats_asked key identity lines count blocks

  pub are_asked : AreAsked sizes lines count blocks
  are_asked = asked case sizes ready slices force count blocks free some more.0 sized.0 sized.1

  pub clean : memory.clean ≡ true
  clean = allowed_clean case slices force count blocks free none

  on_site : (line : SliceLine) → Contains lines line → Contains host.site.lines line
  on_site = asked_on_site case sizes ready slices force count blocks free more.0 sized.0

  within : (line : SliceLine) → Contains lines line → 16 + count * blocks ≤ line.at.blocks
  within = asked_within case sizes ready slices force count blocks free

  placed : IsOfGeometry host.drives (table_of seats)
  placed = asked_placed case sizes ready slices force count blocks free some more.0 sized.0 sized.1 identity

  pub may_form : MayForm host.drives key lines seats
  may_form = record {
    sound = ready.sound;
    sites = λ line has. subst (λ (s : Site). Contains s.lines line) ready.site (on_site line has);
    within = λ line has. subst (λ (s : Site). line.at.start + line.at.blocks ≤ size_on s line) ready.site (ready.on_shelf.within line (on_site line has));
    of_geometry = placed;
  }

  -- the replicas that are left lie on the slices
  seated : (failed : Outcomes) (bytes : ℕ) (now : List Seat) → AreLeft failed (TakesSlot first_mark bytes) seats now → (r : Replica) → Contains (replicas_of now) r → LiesOn host.site r
  seated failed bytes now left r has =
      let one = left_replica failed (TakesSlot first_mark bytes) seats now r left has in
      let is = replica_is key identity count blocks lines one.0 one.1 in
      let step = places_step is.number count blocks is.lt in
      let room = within is.line is.among in
      let there : LiesOn host.site one.0 = subst (λ (x : Replica). LiesOn host.site x) (sym is.is) (record { one_of = on_site is.line is.among; within = omega (arith, step, room) }) in
      subst (λ (x : Replica). LiesOn host.site x) (sym one.2.2) (record { one_of = there.one_of; within = there.within })

  -- where too few places took its table a call failed on the drive of one of the slices
  pub lost_on : (failed : Outcomes) (active listed : ℕ) → create.IsLost failed key identity lines count blocks active listed → IsLostOnSite failed host active listed
  lost_on failed active listed lost =
      let all = asked_length key identity count blocks lines in
      let each = asked_active key identity count blocks lines in
      lost_on_site failed host (TakesSlot first_mark (record_bytes (table_of seats))) seats lost.now (table_of seats).plan.lists lost.tried (half_none seats (map (λ (s : Seat). s.place) seats) refl (omega (arith, all, each)))
      (λ r has. let is = replica_is key identity count blocks lines r has in subst (λ (x : Replica). Contains host.site.lines x.line) (sym is.is) (on_site is.line is.among))
      active listed lost.few

  -- it was made: the database is the host's
  pub made_held : (failed : Outcomes) (o : Opened) → create.IsMade failed key identity lines count blocks o → AreLaid sizes o.seats → IsHeldBy host o
  made_held failed o made laid = record {
    its = ap (λ (x : Opened). x.key) made.is;
    some =
        let counted = left_count failed (TakesSlot first_mark (record_bytes (table_of seats))) seats o.seats made.tried in
        let all = asked_length key identity count blocks lines in
        let each = few_of (length lines) count are_asked.some in
        let least = are_asked.more in
        omega (arith, counted, all, each, least);
    few =
        let counted = left_count failed (TakesSlot first_mark (record_bytes (table_of seats))) seats o.seats made.tried in
        let all = asked_length key identity count blocks lines in
        let most = are_asked.few in
        omega (arith, counted, all, most);
    one = (map (λ (s : Seat). s.place) seats, ap (λ (x : Opened). x.table.plan.lists) made.is);
    half = made.half;
    of_geometry = subst (λ (t : _). IsOfGeometry host.drives t) (sym (ap (λ (x : Opened). x.table) made.is)) placed;
    laid = subst (λ (s : List ℕ). AreLaid s o.seats) (sym ready.on_shelf.sizes_are) laid;
    seated = seated failed (record_bytes (table_of seats)) o.seats made.tried;
  }

  module _ (t m : Tale) (moment : CreateMoment key identity lines count blocks t m) where
    kept : KeptOutside (places_area lines count blocks) t m
    kept = asked_kept key identity lines count blocks t m moment.quiet.outside

    on : KeptOutside (site_area host.site) t m
    on = places_on_site t m host.site lines count blocks on_site within kept

    goes : (all : List Database) → IsCreation host.drives all key identity lines count blocks t → GoOn host.drives (with_creation key identity all) key identity [] AnyLog m
    goes all is = databases.created_goes host.drives all key identity lines count blocks t is m moment

    pub making_moment : (ask : Ask) → IsAskOf host memory lines count blocks ask → CarryMoment host ask memory t m
    making_moment ask is = making.making_moment host sizes ready memory none clean lines count blocks on_site within placed t m kept ask is.rest is.asks is.acks (is.writes t m on kept) moment.quiet.quiet goes

    -- it was made
    module _ (calls : Outcomes) (o : Opened) (made : create.IsMade calls key identity lines count blocks o) (calm : AreCalmBeside (drives_asked lines) calls) (ends : CreateEnds key identity lines count blocks (Ok o) t m)
        (formed : AreTheirs host.drives key identity seats m) where
      opened : IsOpenedAt host.drives o m
      opened = ends.opened host.drives may_form

      pub made_line : CameTo calls host (kept_at memory t) (AddPlaces slices force count blocks) accepted (kept_at (with_new memory o) m)
      made_line = came.done free (
        refl,
        subst (λ (x : Option Opened). MatchOption x (IsCreated calls host lines count blocks (kept_at memory t) (kept_at (with_new memory o) m)) (λ old. HasMovedOn calls host old (Adds lines count blocks) (kept_at memory t) (kept_at (with_new memory o) m))) (sym none)
            (created host memory (with_new memory o) t m calls lines count blocks o made calm kept refl formed opened),
      )

      pub made_carried : (ask : Ask) → IsAskOf host memory lines count blocks ask → CarriedTo host ask memory accepted (with_new memory o) t m
      made_carried ask is_ask =
          making.made host sizes ready memory none clean lines count blocks on_site within placed t m kept ask is_ask.rest is_ask.asks is_ask.acks (is_ask.writes t m on kept) o (with_new memory o) refl refl (one_more memory.begun) (ap (λ (x : Opened). x.key) made.is) (ap (λ (x : Opened). x.table.plan.volumes) made.is) refl opened
          (λ all is. databases.created_made host.drives all key identity lines count blocks t is m moment o (ends.ended host.drives _ (databases.may_create host.drives all key identity lines count blocks t is)) (ap (λ (x : Opened). x.key) made.is) (ap (λ (x : Opened). x.identity) made.is))

    -- a call of its formats failed
    module _ (calls : Outcomes) (failed : create.HasFailed calls key identity lines count blocks) (ends : CreateEnds key identity lines count blocks (Err unmade.Failed) t m) where
      pub failed_line : CameTo calls host (kept_at memory t) (AddPlaces slices force count blocks) (refusing IoFault) (kept_at (begun memory) m)
      failed_line = came.faulted free refl (subst (λ (x : Option Opened). MatchOption x (IsUncreated calls host lines count blocks (kept_at memory t) (kept_at (begun memory) m)) (λ old. IsUnmovedOn calls host old lines count blocks (kept_at memory t) (kept_at (begun memory) m))) (sym none)
          (uncreated host memory (begun memory) t m calls lines count blocks failed kept refl))

      -- each database of the host's key that showed no table shows none, whatever a crash leaves
      pub failed_blank : (other : Identity) → IsBlank host.drives key other t → IsBlank host.drives key other m
      failed_blank other blank = elim (identities other identity) [
        | inl same ↦ subst (λ (x : Identity). IsBlank host.drives key x m) (sym same) (ends.unmade refl host.drives may_form (subst (λ (x : Identity). IsBlank host.drives key x t) same blank))
        | inr differs ↦ moment.blank host.drives may_form key other differs blank
      ]

      pub failed_carried : (ask : Ask) → IsAskOf host memory lines count blocks ask → CarriedTo host ask memory (refusing IoFault) (begun memory) t m
      failed_carried ask is_ask = making.unmade host sizes ready memory none clean lines count blocks on_site within placed t m kept ask is_ask.rest is_ask.asks is_ask.acks (is_ask.writes t m on kept) (begun memory) refl refl (one_more memory.begun) none
          (λ all is. databases.created_fails host.drives all key identity lines count blocks t is m moment (ends.ended host.drives _ (databases.may_create host.drives all key identity lines count blocks t is)))

    -- too few places took its table
    module _ (calls : Outcomes) (active listed : ℕ) (lost : create.IsLost calls key identity lines count blocks active listed) (calm : AreCalmBeside (drives_asked lines) calls)
        (formed : AreTheirs host.drives key identity seats m) (left : IsOpenedAt host.drives (made_at host memory.begun lines count blocks lost.now) m) where
      pub lost_line : CameTo calls host (kept_at memory t) (AddPlaces slices force count blocks) (Over (ended.Lost active listed)) (kept_at (begun memory) m)
      lost_line = came.over (ended.Lost active listed) free refl (subst (λ (x : Option Opened). MatchOption x (LeavesPlaces calls host lines count blocks active listed (kept_at memory t) (kept_at (begun memory) m)) (λ old. LeavesLists calls host old (Adds lines count blocks) active listed (kept_at memory t) (kept_at (begun memory) m))) (sym none)
          (leaves_places host memory (begun memory) t m calls lines count blocks active listed lost calm kept formed left))

    pub lost_carried : (ask : Ask) → IsAskOf host memory lines count blocks ask → (active listed : ℕ) (next : Memory) → CarriedTo host ask memory (Over (ended.Lost active listed)) next t m
    lost_carried ask is_ask active listed next =
        making.made_or_lost host sizes ready memory none clean lines count blocks on_site within placed t m kept ask is_ask.rest is_ask.asks is_ask.acks (is_ask.writes t m on kept) active listed next goes

  -- each place was formatted; and what is left where too few took the table
  module _ {S : Type 0} (shelf : Ghosts S) (a b : S) (small : memory.begun < 2 ^ 32) (f : WereFormed shelf a b key identity lines count blocks) where
    pub formed_end : AtEnd shelf (λ t u. AreTheirs host.drives key identity seats u) a b
    formed_end t told =
        let mid = f.gone.end t told in
        let end = moments_end (λ (v m : Tale). StayFormed key identity lines count blocks m) (shelf.tale f.formed) (shelf.tale b) (f.stay t told) mid.0 mid.1 in
        (end.0, end.1, end.2 host.drives may_form)

    tried : AreLeft (DriveFailures shelf a b) (TakesSlot first_mark (record_bytes (table_of seats))) seats f.now
    tried = f.tried

    abbrev IsShort : ℕ → ℕ → Type 0
    IsShort active listed = short_of Half f.now (table_of seats).plan.lists ≡ Some (record { active = active; listed = listed })

    formed_lost : (active listed : ℕ) → IsShort active listed → create.IsLost (DriveFailures shelf a b) key identity lines count blocks active listed
    formed_lost active listed few = record { now = f.now; tried = tried; few = few }

    formed_left : AtEnd shelf (λ t u. IsOpenedAt host.drives (made_at host memory.begun lines count blocks f.now) u) a b
    formed_left t told =
        let mid = f.gone.end t told in
        let last_one = f.ends mid.0 mid.1 in (
          last_one.0,
          last_one.1,
          made_opened host.drives key identity lines count blocks sizes t (owner host sizes ready memory.begun small) are_asked may_form mid.0 mid.2 last_one.2.body last_one.2.spelled (DriveFailures shelf a b) f.now tried last_one.0 last_one.2.slotting,
        )

    pub leaves : (active listed : ℕ) → IsShort active listed → (lost : create.IsLost (DriveFailures shelf a b) key identity lines count blocks active listed) × AtEnd shelf (λ t u. IsOpenedAt host.drives (made_at host memory.begun lines count blocks lost.now) u) a b
    unfolding formed_lost
    leaves active listed few = (formed_lost active listed few, formed_left)

-- memory was wanting
module _ (host : Host) (memory : Memory) (slices : List SliceName) (force : Bool) (count blocks : ℕ) (none : memory.opened ≡ None) (a b : Option Tale) (same : b ≡ a) where
  pub unbegun_line : IsAllowed (record { host = host; memory = memory }) (AddPlaces slices force count blocks) → (calls : Outcomes) → AreCalm calls → Ends (λ t u. Knows host memory t → CameTo calls host (kept_at memory t) (AddPlaces slices force count blocks) (refusing OutOfMemory) (kept_at (begun memory) u)) a b
  unbegun_line free calls calm t start = (t, same ∙ start, λ known. came.wanting calm refl (free, subst (λ (x : Option Opened). MatchOption x (IsUnbegun (kept_at memory t) (kept_at (begun memory) t)) (λ old. Stays (kept_at memory t) (kept_at (begun memory) t))) (sym none) (record { memory = refl; content = λ drive block. refl })))

  pub unbegun_carried : (ask : Ask) → Ends (CarriedTo host ask memory (refusing OutOfMemory) (begun memory)) a b
  unbegun_carried ask t start = (t, same ∙ start, refused_still host ask memory (begun memory) t refl refl refl refl (omega arith) OutOfMemory)
