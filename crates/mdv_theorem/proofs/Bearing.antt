-- Along a run's lines behind the one that made the database: what is open is active on the drives on which no call fails; and none of the lines tells that places were lost, where half of the slices, or more, on which
-- the replicas may lie by them are on such drives.
use Rattle.std.proofs.Common.{◌≡◌, inl, inr, ℕ, ◌+◌, ◌-◌, ◌≤◌, ◌^◌, min, Bool, true, false, List, [], ◌∷◌, ◌++◌, Option, Some, None, Contains, length, refl, sym, subst, arith, append-nil, append_assoc}
use Rattle.std.proofs.lemmas.Bool.{cases_lt, lt-ltb, ltb-true}
use Rattle.std.proofs.lemmas.List.Elements.{Contains-append_left, Contains-append_right}
use Rattle.std.specs.Prelude.{nat_lt}
use Rattle.mdv_base.proofs.Causes.{rose_of_once, rose_within}
use Rattle.mdv_base.specs.declared.drive.DriveNo.{DriveNo}
use Rattle.mdv_base.specs.declared.drive.SliceName.{SliceName}
use Rattle.mdv_base.specs.declared.place.Place.{Place}
use Rattle.mdv_engine_law.proofs.Freed.{freed_current}
use Rattle.mdv_engine_law.specs.Hosts.{key_of}
use Rattle.mdv_engine_law.specs.Line.{Kept}
use Rattle.mdv_engine_law.specs.Places.{list_of}
use Rattle.mdv_engine_law.specs.Replies.{text_of}
use Rattle.mdv_engine_law.specs.Standing.{IsKnown, MeetsStaleAt}
use Rattle.mdv_engine_law.specs.declared.answer.Answer.{Answer}
use Rattle.mdv_engine_law.specs.declared.host.Host.{Host}
use Rattle.mdv_name.specs.declared.geometry.Geometry.{Geometry}
use Rattle.mdv_port.specs.Script.{Script, at_end, line, spent, too_long}
use Rattle.mdv_run_law.proofs.Lining.{replies_none}
use Rattle.mdv_run_law.proofs.Since.{since_itself}
use Rattle.mdv_run_law.specs.Lives.{host_of}
use Rattle.mdv_run_law.specs.Run.{At, Counts, IsOfTable, IsSaid, LineTold, LinesTold, NextLine, RoseTo, Stretch, drive_failures, no_line, one_more}
use Rattle.mdv_run_law.specs.Standing.{AtBoot, ComeOf, context_of}
use Rattle.mdv_shelf.specs.Moments.{IsSince}
use Rattle.mdv_shelf.specs.Story.{Story, tale_of}
use Rattle.mdv_shelf.specs.Tale.{Tale, told}
use Rattle.mdv_status.specs.Telling.{replies_in}
use Rattle.mdv_engine_law.proofs.Plain.{nothing_answers}
use Rattle.mdv_store.specs.Opened.{Opened}
use Rattle.mdv_store_law.specs.Log.{Lives, Version}
use Rattle.mdv_plan.specs.declared.lists.Lists.{Lists}
use Rattle.mdv_plan.specs.declared.lists.Lists.TheVariants.{One, Two}
use Rattle.mdv_volumes.specs.Databases.{log_of}
use Rattle.mdv_volumes.specs.Happening.{MayBeFound}
use Rattle.mdv_volumes.specs.History.{History, history_after_all}
use Rattle.mdv_volumes.specs.HistoryLaws.{AllLists}
use Rattle.mdv_volumes.proofs.Lists.{contains_first}
use Rattle.mdv_words.specs.Line as words
use Rattle.mdv_words.specs.Line.{IsLine}
use Rattle.mdv_words.specs.Listed.{as_listed, listed_by, meant}
use Rattle.mdv_words.specs.Listed.{Replicas}
use Rattle.mdv_words.specs.declared.command.Command.{Command}
use Rattle.mdv_words.specs.declared.command.Command.TheVariants.{AddListed, AddPlaces, DropPlaces, Print, Read, Write}
use Rattle.mdv_words.specs.declared.command.Command.TheVariants as command
use Rattle.mdv_theorem.specs.Exchanges.{Exchange, MayHaveBegun, exchanges}
use Rattle.mdv_theorem.specs.Observed.{HalfLieOn, IsCalmOn}
use Rattle.mdv_theorem.specs.Words.{KeepsDatabase, MayBecome, MayMake, TellsPlaces}
use Rattle.mdv_theorem.proofs.Along.{LieAt, open_come, step_lies}
use Rattle.mdv_theorem.proofs.Carried.{Holds, carried, holds_still}
use Rattle.mdv_theorem.proofs.Come.{HasMetNothing, met_on}
use Rattle.mdv_theorem.proofs.Left.{lines_here}
use Rattle.mdv_theorem.proofs.Lined.{said_of}
use Rattle.mdv_theorem.proofs.Readopted.{boot_borne, boot_upheld}
use Rattle.mdv_theorem.proofs.Rising.{lines_rose, next_rose, rose_to_more}
use Rattle.mdv_theorem.proofs.Seats.{IsBorne, IsHalf, OfEach, half_of}
use Rattle.mdv_theorem.proofs.Slices.{become_one, left_there, less_made, made_of, more_made, slices_of}
use Rattle.mdv_theorem.proofs.Sure.{since_last, sure_on}
use Rattle.mdv_theorem.proofs.Upheld.{Halves, IsUpheld, answered_upheld, borne_keeps}

-- no call failed between these counts
abbrev pub is_calm : ℕ → ℕ → Bool
is_calm before now = nat_lt now (min (before + 1) (2 ^ 64 - 1))

never_both : (now top : ℕ) → nat_lt now top ≡ true → top ≤ now → ⊥
never_both now top calm rose = (let less = ltb-true now top calm in omega (arith, less, rose))

calm_where : (now top : ℕ) → (top ≤ now → ⊥) → nat_lt now top ≡ true
calm_where now top never = elim (cases_lt now top) [ inl less ↦ lt-ltb now top less | inr rose ↦ absurd (never rose) ]

-- each list of a table that a boot may find is one of these
pub each_of : (P : List Place → Type 0) (may : List (List Place)) → ((places : List Place) → Contains may places → P places) → (lists : Lists) → AllLists may lists → OfEach P lists
each_of P may all (One places) has = all places has
each_of P may all (Two old new) has = (all old has.0, all new has.1)

-- a line in work, of which nothing was told
module _ (text : List ℕ) where
  abbrev in_work : Exchange
  in_work = record { text = text; reply = None }

  work_begun : MayHaveBegun in_work
  work_begun refusal told = absurd (cc (told))

  pub work_untold : TellsPlaces in_work → ⊥
  work_untold (cmd, asks, moves, told) = cc (told)

module _ (start close : Counts) where
  -- no call on the drive failed in the run
  abbrev pub calm_in : ℕ → Bool
  calm_in drive = is_calm (start.drives drive) (close.drives drive)

  pub calm_where_on : (drive : DriveNo) → IsCalmOn start close drive → calm_in drive.0 ≡ true
  calm_where_on drive never = calm_where (close.drives drive.0) (min (start.drives drive.0 + 1) (2 ^ 64 - 1)) never

  pub unfailed : (now later : Counts) → RoseTo start now → ((drive : ℕ) → later.drives drive ≤ close.drives drive) → (drive : ℕ) → calm_in drive ≡ true → (drive_failures now later drive).some → ⊥
  unfailed now later low high drive is once =
      never_both (close.drives drive) (min (start.drives drive + 1) (2 ^ 64 - 1)) is (rose_within _ _ _ _ (low.drives drive) (high drive) (rose_of_once (now.drives drive) (later.drives drive) once))

module _ (drives : Geometry) (name : List ℕ) (from : List SliceName) (fresh : ℕ) (script : Script) (h : History) (t m : Tale) (none : HasMetNothing (host_of drives name fresh) script h t m) (is_host : IsOfTable (host_of drives name fresh)) (start close : Counts) where
  abbrev its : Host
  its = host_of drives name fresh

  abbrev calm : ℕ → Bool
  calm = calm_in start close

  -- A place between two lines: the lists that a boot may find lie as the lines so far may have come to, and what is open is active on such drives.
  pub record Bears (lines : List Exchange) (at : At) : Type 0 where
    pub lie : LieAt drives name from fresh script h t m none lines at
    pub holds : Holds (IsBorne its calm) at.kept
    pub low : RoseTo start at.counts

  module _ (lines : List Exchange) (at : At) (b : Bears lines at) (since : IsSince (tale_of b.lie.sure.story) m) where
    abbrev there : History
    there = history_after_all h b.lie.sure.come.es

    abbrev u : Tale
    u = tale_of b.lie.sure.story

    known : IsKnown its at.kept.memory there u
    known = b.lie.sure.come.known

    lives : (log_of there.databases (key_of its)).fate ≡ Lives
    lives = b.lie.lie.has.0.0

    -- a boot that the next line asks meets no stale vote
    fair : (text : List ℕ) (left : Script) → at.script ≡ line text left → IsLine text words.Boot → MeetsStaleAt its there u → ⊥
    fair text left is asks meets =
        none (met_on its script h t at.kept.memory at.script u b.lie.sure.come u m since (record {
          began = u;
          since = since_itself u;
          before = since_itself u;
          bytes = [];
          is_told = sym (append-nil (told u));
          replies = replies_none;
          met = record { es = []; course = tt; come = comes; stands = known.stands; after = meets };
        }))
      where
        comes : ComeOf its AtBoot (context_of at.kept.memory) at.script (replies_in []) []
        comes = subst (λ (s : Script). ComeOf its AtBoot (context_of at.kept.memory) s (replies_in []) []) (sym is)
            (subst (λ (l : List (List ℕ)). ComeOf its AtBoot (context_of at.kept.memory) (line text left) l []) (sym nothing_answers) (refl, asks))

    -- where nothing is open memory isn't clean, since the database is there
    unclean : at.kept.memory.opened ≡ None → at.kept.memory.clean ≡ false
    unclean nothing = by at.kept.memory.clean refl where
      by : (b : Bool) → at.kept.memory.clean ≡ b → b ≡ false
      by false is = refl
      by true is = absurd (elim (freed_current its.drives there.databases (key_of its) u known.stands.databases (known.free nothing is)) [
        | inl loose ↦ (let firm = b.lie.lie.has.0.1 in cc (loose, firm))
        | inr over ↦ (let alive = lives in cc (alive, over))
      ])

    -- The next line, by these counts.
    module _ (later : Counts) (high : (drive : ℕ) → later.drives drive ≤ close.drives drive) where
      never_failed : (drive : ℕ) → calm drive ≡ true → (drive_failures at.counts later drive).some → ⊥
      never_failed = unfailed start close at.counts later b.low high

      next_holds : (next : Kept) (rest left : Script) (answer : Answer) → at.script ≡ left → NextLine its at.counts at.kept left answer later next rest → IsSaid answer → Holds (IsBorne its calm) next
      next_holds next rest at_end answer same is said = absurd is
      next_holds next rest (spent lines bytes) answer same is said = absurd is
      next_holds next rest (too_long left) answer same is said = holds_still (IsBorne its calm) at.kept next is.3.1.memory b.holds
      next_holds next rest (line text left) answer same is said =
          carried its is_host (drive_failures at.counts later) (IsBorne its calm) (borne_keeps its is_host calm (drive_failures at.counts later) never_failed) at.kept next answer text
          (λ asks boots telling. boot_borne its is_host calm (drive_failures at.counts later) never_failed there u known.stands lives (fair text left same asks) at.kept next answer b.lie.sure.reads boots telling) b.holds said is.2

      -- no such line is the end of the run by places that were lost, where half of the slices on which they may lie by it, or more, are on such drives
      module _ (text : List ℕ) (left : Script) (same : at.script ≡ line text left) (keeps : KeepsDatabase (in_work text ∷ []))
          (enough : (slices : List SliceName) → MayBecome drives name (lines ++ in_work text ∷ []) from slices → HalfLieOn drives name (λ (drive : DriveNo). calm drive.0 ≡ true) slices) where
        half_by : (old next : List Place) → MayBecome drives name lines from (slices_of old) → MayMake drives name (in_work text) (slices_of old) (slices_of next) → IsHalf its calm next
        half_by old next was makes = half_of drives name fresh calm next (enough (slices_of next) (become_one drives name lines (in_work text) from (slices_of old) (slices_of next) was makes))

        half_still : (places : List Place) → MayBecome drives name lines from (slices_of places) → IsHalf its calm places
        half_still places was = half_by places places was (left_there drives name (in_work text) (slices_of places) (work_untold text))

        found_halves : (v : Version) → MayBeFound (log_of there.databases (key_of its)).family v → OfEach (IsHalf its calm) v.table.plan.lists
        found_halves v found = each_of (IsHalf its calm) b.lie.lie.may (λ places has. half_still places (b.lie.lie.each places has)) v.table.plan.lists (b.lie.lie.has.1 v found)

        open_lie : (o : Opened) → at.kept.memory.opened ≡ Some o → MayBecome drives name lines from (slices_of (list_of o))
        open_lie o opened = open_come drives name from fresh lines at.kept.memory there u o known opened b.lie.lie

        gentle : (slices : List SliceName) → IsLine text (words.Exec (DropPlaces slices true)) → ⊥
        gentle slices asks = keeps (in_work text) (contains_first (in_work text) []) (record { command = DropPlaces slices true; asks = asks; takes = refl; begun = work_begun text })

        listed_half : (number : ℕ) (force : Bool) (said : Option Replicas) → IsLine text (words.Exec (AddListed number force)) → (o : Opened) → at.kept.memory.opened ≡ Some o → Halves its is_host calm (drive_failures at.counts later) never_failed (as_listed number force said) o
        listed_half number force None asks o opened = half_still (list_of o) (open_lie o opened)
        listed_half number force (Some r) asks o opened =
            (half_still (list_of o) (open_lie o opened), half_by (list_of o) _ (open_lie o opened) (made_of drives name (in_work text) (AddListed number force) (slices_of (list_of o)) _ asks tt (work_begun text)))

        halves : (cmd : Command) → IsLine text (words.Exec cmd) → (o : Opened) → at.kept.memory.opened ≡ Some o → Halves its is_host calm (drive_failures at.counts later) never_failed (meant at.kept.memory.entries cmd) o
        halves (AddPlaces slices force count blocks) asks o opened =
            (half_still (list_of o) (open_lie o opened), half_by (list_of o) _ (open_lie o opened) (more_made drives name (in_work text) slices force count blocks (list_of o) asks (work_begun text)))
        halves (AddListed number force) asks o opened = listed_half number force (listed_by at.kept.memory.entries number) asks o opened
        halves (DropPlaces slices true) asks o opened = absurd (gentle slices asks)
        halves (DropPlaces slices false) asks o opened =
            (refl, half_still (list_of o) (open_lie o opened), half_by (list_of o) _ (open_lie o opened) (less_made drives name (in_work text) slices false (list_of o) asks (work_begun text)))
        halves (command.Alter alteration) asks o opened = half_still (list_of o) (open_lie o opened)
        halves (Read volume at_block count) asks o opened = half_still (list_of o) (open_lie o opened)
        halves (Write volume at_block block) asks o opened = half_still (list_of o) (open_lie o opened)
        halves (Print names) asks o opened = half_still (list_of o) (open_lie o opened)

        line_upheld : (next : Kept) (rest : Script) (answer : Answer) → NextLine its at.counts at.kept (line text left) answer later next rest → IsUpheld answer
        line_upheld next rest answer is =
            answered_upheld its is_host calm (drive_failures at.counts later) never_failed at.kept next answer b.holds unclean text
            (λ asks boots. boot_upheld its is_host calm (drive_failures at.counts later) never_failed there u known.stands lives (fair text left same asks) at.kept next answer b.lie.sure.reads found_halves boots) halves is.2

      -- whatever is left of the script
      next_upheld : (next : Kept) (rest : Script) (answer : Answer) (left : Script) → at.script ≡ left → KeepsDatabase (exchanges left [])
          → ((slices : List SliceName) → MayBecome drives name (lines ++ exchanges left []) from slices → HalfLieOn drives name (λ (drive : DriveNo). calm drive.0 ≡ true) slices) → NextLine its at.counts at.kept left answer later next rest → IsUpheld answer
      next_upheld next rest answer at_end same keeps enough is = absurd is
      next_upheld next rest answer (spent rows limit) same keeps enough is = absurd is
      next_upheld next rest answer (too_long left) same keeps enough is = subst IsUpheld (sym is.3.0) tt
      next_upheld next rest answer (line text left) same keeps enough is = line_upheld text left same keeps enough next rest answer is

    -- behind a line that was told
    pub bears_on : (mid : At) (piece : List ℕ) (line_told : LineTold its at piece mid) → ((v : Story) → mid.story ≡ Some v → IsSince (tale_of v) m) → ((drive : ℕ) → mid.counts.drives drive ≤ close.drives drive) → KeepsDatabase (said_of at.script (text_of line_told.answer))
        → Bears (lines ++ said_of at.script (text_of line_told.answer)) mid
    bears_on mid piece line_told since_mid high keeps =
        let on = sure_on its script h t m none at mid piece line_told b.lie.sure since_mid in
        record {
          lie = record { sure = on.next; lie = step_lies drives name from fresh script h t m none lines at mid piece line_told b.lie.sure on b.lie.lie keeps };
          holds = next_holds mid.counts high mid.kept mid.script at.script line_told.answer refl line_told.comes line_told.said;
          low = rose_to_more start at.counts mid.counts b.low (next_rose its at.counts mid.counts at.kept mid.kept at.script mid.script line_told.answer line_told.comes);
        }

  -- and behind lines, one behind the other
  pub bears_lines : (stretch : Stretch) (n : ℕ) (now last : At) (front : List ℕ) (lines_told : LinesTold its stretch n now front last) → ((u : Story) → last.story ≡ Some u → IsSince (tale_of u) m) → ((drive : ℕ) → last.counts.drives drive ≤ close.drives drive)
      → (lines : List Exchange) → KeepsDatabase (lines_here its stretch n now last front lines_told) → Bears lines now → Bears (lines ++ lines_here its stretch n now last front lines_told) last
  bears_lines stretch n now last front (no_line bytes at) since high lines keeps b = subst (λ (l : List Exchange). Bears l now) (sym (append-nil lines)) b
  bears_lines stretch n now last front (one_more bytes at mid end piece left some line_told shown more) since high lines keeps b =
      let here = said_of now.script (text_of line_told.answer) in
      let rest = lines_here its stretch (n + length piece) mid last left more in
      let rose = lines_rose its stretch (n + length piece) mid last left more in
      let since_mid = λ (v : Story) (is : mid.story ≡ Some v). since_last its stretch (n + length piece) mid last left m more since v is in
      let since_now = since_last its stretch n now last (piece ++ left) m (one_more bytes at mid end piece left some line_told shown more) since b.lie.sure.story b.lie.sure.is in
      let first = bears_on lines now b since_now mid piece line_told since_mid (λ drive. (let x = rose.drives drive in let y = high drive in omega arith)) (λ one has. keeps one (Contains-append_left here rest one has)) in
      subst (λ (l : List Exchange). Bears l last) (append_assoc lines here rest)
      (bears_lines stretch (n + length piece) mid last left more since high (lines ++ here) (λ one has. keeps one (Contains-append_right here rest one has)) first)

  -- Behind them no line is the end of the run by places that were lost, where half of the slices on which they may lie by all these lines, and by the one in work, or more, are on drives on which no call fails.
  pub lines_upheld : (stretch : Stretch) (n : ℕ) (now last : At) (front : List ℕ) (lines_told : LinesTold its stretch n now front last) → ((u : Story) → last.story ≡ Some u → IsSince (tale_of u) m) → (later : Counts) → ((drive : ℕ) → later.drives drive ≤ close.drives drive)
      → (lines : List Exchange) → Bears lines now → KeepsDatabase (lines_here its stretch n now last front lines_told ++ exchanges last.script [])
      → ((slices : List SliceName) → MayBecome drives name (lines ++ (lines_here its stretch n now last front lines_told ++ exchanges last.script [])) from slices → HalfLieOn drives name (λ (drive : DriveNo). calm drive.0 ≡ true) slices)
      → (next : Kept) (rest : Script) (answer : Answer) → NextLine its last.counts last.kept last.script answer later next rest → IsUpheld answer
  lines_upheld stretch n now last front lines_told since later high lines b keeps enough next rest answer is =
      let here = lines_here its stretch n now last front lines_told in
      let work = exchanges last.script [] in
      let rose = next_rose its last.counts later last.kept next last.script rest answer is in
      let there = bears_lines stretch n now last front lines_told since (λ drive. (let x = rose.drives drive in let y = high drive in omega arith)) lines (λ one has. keeps one (Contains-append_left here work one has)) b in
      next_upheld (lines ++ here) last there (since there.lie.sure.story there.lie.sure.is) later high next rest answer last.script refl (λ one has. keeps one (Contains-append_right here work one has))
      (λ slices may. enough slices (subst (λ (l : List Exchange). MayBecome drives name l from slices) (append_assoc lines here work) may)) is
