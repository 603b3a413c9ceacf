-- A database that a line was told to have made: the lists of places that a boot may find since lie on slices that the lines behind it may have come to.
use Rattle.std.proofs.Common.{◌≡◌, ◌⊎◌, inl, inr, ℕ, ◌+◌, Bool, List, [], ◌∷◌, ◌++◌, length, append_assoc, Some, None, Contains, refl, sym, ◌∙◌, ap, subst, if◌then◌else◌}
use Rattle.std.proofs.lemmas.List.{append-nil, append_cancel_left, append_cancel_right}
use Rattle.std.proofs.lemmas.List.Elements.{Contains-append_left, Contains-append_right}
use Rattle.std.proofs.lemmas.Slice.Eq.{bytes_eq-Decides}
use Rattle.std.specs.Str.{bytes_eq}
use Rattle.mdv_base.specs.declared.drive.SliceName.{SliceName}
use Rattle.mdv_engine_law.specs.Line.{Kept}
use Rattle.mdv_engine_law.specs.Replies.{ok_line, text_of}
use Rattle.mdv_engine_law.specs.declared.answer.Answer.{Answer}
use Rattle.mdv_engine_law.specs.declared.host.Host.{Host}
use Rattle.mdv_name.specs.declared.geometry.Geometry.{Geometry}
use Rattle.mdv_port.specs.Script.{Script, line}
use Rattle.mdv_run_law.specs.Lives.{HasMetNone, IsNewWord, MayBeFound, Ran, host_of}
use Rattle.mdv_run_law.specs.Run.{At, Counts, IsAnswered, IsNextFront, LineTold, LinesTold, NextLine, Stretch, behind_boot, drive_failures, no_line, one_more}
use Rattle.mdv_run_law.specs.Standing.{AreOfRun, RunMoment, context_of}
use Rattle.mdv_run_law.specs.Told.{IsToldBy}
use Rattle.mdv_run_law.proofs.Coming.{in_work_none}
use Rattle.mdv_run_law.proofs.Living.{ends}
use Rattle.mdv_shelf.proofs.Blocks.{both_ways}
use Rattle.mdv_shelf.specs.Everywhere.{Image}
use Rattle.mdv_shelf.specs.Moments.{IsSince}
use Rattle.mdv_shelf.specs.Story.{Moment, Story, tale_of}
use Rattle.mdv_shelf.specs.Tale.{Tale}
use Rattle.mdv_shelf.specs.Tale as tale
use Rattle.mdv_status.specs.Telling.{replies_in}
use Rattle.mdv_store_law.specs.Laws.{restarted}
use Rattle.mdv_config.specs.Slices.{IsSound}
use Rattle.mdv_volumes.specs.History.{History, history_after_all}
use Rattle.mdv_words.specs.declared.command.Command.TheVariants.{AddPlaces}
use Rattle.mdv_theorem.specs.Exchanges.{Asks, Exchange, IsTold, exchanges, exchanges_by, exchanges_of}
use Rattle.mdv_theorem.specs.Running.{HaveMetNone, IsMomentOf, Lived, Running, Runs, no_run, run_on}
use Rattle.mdv_theorem.specs.Words.{IsMadeOn, KeepsDatabase, spread}
use Rattle.mdv_theorem.proofs.Agreeing.{own_sound}
use Rattle.mdv_theorem.proofs.Along.{LieAt, open_lies}
use Rattle.mdv_theorem.proofs.Behind.{RunLies, lined_lies, tail_lies}
use Rattle.mdv_theorem.proofs.Clean.{its_start, met_none, start, start_own, start_stands}
use Rattle.mdv_theorem.proofs.Come.{HasCome, HasMetNothing}
use Rattle.mdv_theorem.proofs.Creating.{made_there}
use Rattle.mdv_theorem.proofs.Fronts.{IsWhole, front_says, none_or_all, none_told, whole_come, whole_run}
use Rattle.mdv_theorem.proofs.Lain.{LieBehind, behind_more, other_behind, own_behind}
use Rattle.mdv_theorem.proofs.Left.{lines_here, lines_say, replies_behind}
use Rattle.mdv_theorem.proofs.Lined.{AreLined, come_lined, said_of}
use Rattle.mdv_theorem.proofs.Lines.{never_in}
use Rattle.mdv_theorem.proofs.Lists.{ListsLie}
use Rattle.mdv_theorem.proofs.Parting.{Parts, cut_has, in_first, in_second, parts}
use Rattle.mdv_theorem.proofs.Reread.{Came, came}
use Rattle.mdv_theorem.proofs.Steps.{unreplied}
use Rattle.mdv_theorem.proofs.Sure.{IsSureAt, since_last, sure_on}
use Rattle.mdv_theorem.proofs.Tail.{rest_told}
use Rattle.mdv_theorem.proofs.Refused.{AreRefused}
use Rattle.mdv_theorem.proofs.Unmade.{none_open}

-- the line that was told is the first of those that are left, or none is left
record IsFirst (host : Host) (stretch : Stretch) (n : ℕ) (from to : At) (left : List ℕ) (all : List Exchange) : Type 1 where
  mid : At
  piece : List ℕ
  behind : List ℕ
  is_left : left ≡ piece ++ behind
  line_told : LineTold host from piece mid
  after : LinesTold host stretch (n + length piece) mid behind to
  says : all ≡ said_of from.script (text_of line_told.answer) ++ lines_here host stretch (n + length piece) mid to behind after

first_line : (host : Host) (stretch : Stretch) (n : ℕ) (from to : At) (left : List ℕ) (lines : LinesTold host stretch n from left to) → ((left ≡ []) × (to ≡ from)) ⊎ IsFirst host stretch n from to left (lines_here host stretch n from to left lines)
first_line host stretch n from to left (no_line bytes at) = inl (refl, refl)
first_line host stretch n from to left (one_more bytes at mid end piece behind some line_told shown lines) = inr (record { mid = mid; piece = piece; behind = behind; is_left = refl; line_told = line_told; after = lines; says = refl })

-- what is known at a place is known behind the lines that were told since
pub lines_sure : (host : Host) (script : Script) (h : History) (t m : Tale) (none : HasMetNothing host script h t m) (stretch : Stretch) (n : ℕ) (now last : At) (front : List ℕ) → LinesTold host stretch n now front last → ((u : Story) → last.story ≡ Some u → IsSince (tale_of u) m) → IsSureAt host script h t now → IsSureAt host script h t last
lines_sure host script h t m none stretch n now last front (no_line bytes at) since sure = sure
lines_sure host script h t m none stretch n now last front (one_more bytes at mid end piece left some line_told shown more) since sure =
    let on = sure_on host script h t m none now mid piece line_told sure (λ v is. since_last host stretch (n + length piece) mid last left m more since v is) in
    lines_sure host script h t m none stretch (n + length piece) mid last left more since on.next

module _ (drives : Geometry) (name : List ℕ) (sound : IsSound drives) (of_table : Contains drives.hosts name) (made : Exchange) (slices : List SliceName) (force : Bool) (count blocks : ℕ) (asks : Asks made (AddPlaces slices force count blocks)) (told : IsTold made ok_line) where
  abbrev from : List SliceName
  from = spread count slices

  -- A run of the host, that was told to have made it.
  module _ (before : List Ran) (script : Script) (run : Running drives name before script) (front rest : List Exchange) (are : exchanges_of script run.tells.bytes ≡ front ++ made ∷ rest) (first : AreRefused (exchanges_by name before ++ front)) where
    abbrev host : Host
    host = host_of drives name run.fresh

    its_own : IsSound host.drives
    its_own = own_sound drives name run.fresh sound

    abbrev h : History
    h = start run of_table

    abbrev none : HasMetNothing host script h run.t.tale run.m.tale
    none = met_none run of_table

    abbrev at : Came drives name before script sound of_table run front rest made ok_line told run.m run.tells.bytes
    at = came drives name before script sound of_table run front rest made ok_line told run.m run.tells run.clean are

    abbrev here : At
    here = at.place.at

    abbrev booted : At
    booted = behind_boot at.by.booted at.by.by at.by.kept script

    abbrev bytes : List ℕ
    bytes = at.by.lines.rest

    since_end : (u : Story) → at.by.lines.at.story ≡ Some u → IsSince (tale_of u) run.m.tale
    since_end u is = (at.by.lines.work u is).moment.since

    sure : IsSureAt host script h run.t.tale here
    sure =
        lines_sure host script h run.t.tale run.m.tale none run.stretch 0 booted here at.place.front at.place.lines
        (λ u is. since_last host run.stretch (0 + length at.place.front) here at.by.lines.at at.place.left run.m.tale at.place.more since_end u is) at.first_sure

    -- nothing was open there
    front_is : lines_here host run.stretch 0 booted here at.place.front at.place.lines ≡ front
    front_is =
        let lines = lines_here host run.stretch 0 booted here at.place.front at.place.lines in
        let said = lines_say host run.stretch 0 booted here at.place.front (at.place.left ++ bytes) at.place.lines in
        let all : exchanges_of script run.tells.bytes ≡ exchanges_of script (at.place.front ++ (at.place.left ++ bytes)) =
        ap (exchanges_of script) (at.by.lines.parts ∙ ap (λ (l : List ℕ). l ++ bytes) at.place.parts ∙ append_assoc at.place.front at.place.left bytes) in
        append_cancel_right lines front (made ∷ rest) (ap (λ (l : List Exchange). lines ++ l) (sym at.place.asked) ∙ sym said ∙ sym all ∙ are)

    closed : here.kept.memory.opened ≡ None
    closed =
        none_open drives name of_table before script run at.by at.place.front here at.place.lines (0 + length at.place.front) at.place.left at.place.more
        (subst (λ (l : List Exchange). AreRefused (exchanges_by name before ++ l)) (sym front_is) first)

    -- its reply
    told_of : (answer : Answer) (replies : List (List ℕ)) → replies_in (at.place.left ++ bytes) ≡ text_of answer ∷ replies → IsTold made (text_of answer)
    told_of answer replies is =
        let next = at.place.is_next in
        let all : exchanges (line made.text next.0) (text_of answer ∷ replies) ≡ made ∷ rest = sym (λ i. exchanges (next.1 i) (is i)) ∙ at.place.asked in
        let same : ◌≡◌ {A = Exchange} (record { text = made.text; reply = Some (text_of answer) }) made = cc (all) in
        ap (λ (e : Exchange). e.reply) (sym same)

    comes_of : (later : Counts) (next : Kept) (more : Script) (answer : Answer) → NextLine host here.counts here.kept here.script answer later next more → IsAnswered (drive_failures here.counts later) host here.kept made.text answer next
    comes_of later next more answer comes = (subst (λ (s : Script). NextLine host here.counts here.kept s answer later next more) at.place.is_next.1 comes).2

    -- what is said of it, and of the lines behind it
    rest_of : (reply : List ℕ) (behind : List Exchange) → exchanges_of here.script (at.place.left ++ bytes) ≡ said_of here.script reply ++ behind → rest ≡ behind
    rest_of reply behind says =
        let all : made ∷ rest ≡ record { text = made.text; reply = Some reply } ∷ behind = sym at.place.asked ∙ says ∙ ap (λ (s : Script). said_of s reply ++ behind) at.place.is_next.1 in
        cc (all)

    -- Where lines were told behind it, or none yet.
    pub record MadeAt : Type 1 where
      pub n : ℕ
      pub mid : At
      pub behind : List ℕ
      pub after : LinesTold host run.stretch n mid behind at.by.lines.at
      pub lie : LieAt drives name from run.fresh script h run.t.tale run.m.tale none [] mid
      pub says : rest ≡ lines_here host run.stretch n mid at.by.lines.at behind after ++ exchanges_of at.by.lines.at.script bytes

    abbrev Lies : Type 0
    Lies = RunLies drives name from host script run.tells.bytes h rest run.m.tale

    abbrev First : Type 1
    First = IsFirst host run.stretch (0 + length at.place.front) here at.by.lines.at at.place.left (lines_here host run.stretch (0 + length at.place.front) here at.by.lines.at at.place.left at.place.more)

    line_made : First → MadeAt
    line_made f =
        let answer = f.line_told.answer in
        let is = ap (λ (l : List ℕ). replies_in (l ++ bytes)) f.is_left ∙ replies_behind host run.stretch here f.mid f.piece f.behind bytes f.line_told in
        let there = made_there host its_own refl (drive_failures here.counts f.mid.counts) here.kept f.mid.kept made answer (comes_of f.mid.counts f.mid.kept f.mid.script answer f.line_told.comes) f.line_told.said
        (told_of answer (replies_in (f.behind ++ bytes)) is) slices force count blocks asks told closed in
        let n = (0 + length at.place.front) + length f.piece in
        let on = sure_on host script h run.t.tale run.m.tale none here f.mid f.piece f.line_told sure (λ v is_v. since_last host run.stretch n f.mid at.by.lines.at f.behind run.m.tale f.after since_end v is_v) in
        let lie = open_lies drives name from run.fresh [] f.mid.kept.memory (history_after_all h on.next.come.es) (tale_of on.next.story) there.o on.next.come.known there.opened there.places there.lists there.lie in
        let said = lines_say host run.stretch (0 + length at.place.front) here at.by.lines.at at.place.left bytes at.place.more in
        let others = lines_here host run.stretch n f.mid at.by.lines.at f.behind f.after in
        let work = exchanges_of at.by.lines.at.script bytes in
        record {
          n = n;
          mid = f.mid;
          behind = f.behind;
          after = f.after;
          lie = record { sure = on.next; lie = lie };
          says = rest_of (text_of answer) (others ++ work) (said ∙ ap (λ (l : List Exchange). l ++ work) f.says ∙ append_assoc (said_of here.script (text_of answer)) others work);
        }

    by_line : KeepsDatabase rest → MadeAt → Lies
    by_line keeps a =
        let others = lines_here host run.stretch a.n a.mid at.by.lines.at a.behind a.after in
        let work = exchanges_of at.by.lines.at.script bytes in
        let all = tail_lies drives name from run.fresh script run.stretch run.start h run.t.tale run.tells.bytes run.m at.by none (start_stands run of_table) (start_own run of_table) run.moment.begins.0 run.moment.begins.1 run.moment.begins.2 run.tells.is_told
        a.n a.mid a.behind a.after [] a.lie (λ one has. keeps one (subst (λ (l : List Exchange). Contains l one) (sym a.says) (Contains-append_left others work one has)))
        (λ one has. keeps one (subst (λ (l : List Exchange). Contains l one) (sym a.says) (Contains-append_right others work one has))) in
        subst (λ (l : List Exchange). RunLies drives name from host script run.tells.bytes h l run.m.tale) (sym a.says) all

    -- It was the line in work, whose whole reply was told.
    module _ (none_left : at.place.left ≡ []) (same : at.by.lines.at ≡ here) (keeps : KeepsDatabase rest) where
      left_is : exchanges_of here.script (at.place.left ++ bytes) ≡ exchanges_of here.script bytes
      left_is = ap (λ (l : List ℕ). exchanges_of here.script (l ++ bytes)) none_left

      quiet_never : replies_in bytes ≡ [] → ⊥
      quiet_never nothing = unreplied here.script [] rest made ok_line (ap (exchanges here.script) (sym nothing) ∙ sym left_is ∙ at.place.asked) told

      more_told : tale.told run.m.tale ≡ tale.told (tale_of sure.story) ++ bytes
      more_told =
          let its : at.by.lines.at.story ≡ Some sure.story = ap (λ (a : At). a.story) same ∙ sure.is in
          rest_told host run.stretch run.start run.t.tale script run.tells.bytes run.m at.by run.tells.is_told run.moment.begins.0 run.moment.begins.1 run.moment.begins.2 sure.story its

      by_whole : IsWhole host here bytes run.m → Lies
      by_whole w =
          let answer = w.front.answer in
          let last = w.front.next.memory in
          let behind = exchanges w.front.more [] in
          let there = made_there host its_own refl (drive_failures here.counts w.front.later) here.kept w.front.next made answer (comes_of w.front.later w.front.next w.front.more answer w.front.comes) w.said
          (told_of answer [] ((λ i. replies_in (none_left i ++ bytes)) ∙ w.alone)) slices force count blocks asks told closed in
          let came_so : HasCome host script h run.t.tale last w.front.more run.m.tale = whole_come host here bytes run.m script h run.t.tale none w sure more_told in
          let is : rest ≡ behind = rest_of (text_of answer) behind (left_is ∙ front_says host here bytes run.m here.script w w.front.comes) in
          let lie = open_lies drives name from run.fresh [] last (history_after_all h came_so.es) run.m.tale there.o came_so.known there.opened there.places there.lists there.lie in
          let lined : AreLined drives name behind [] = come_lined drives name run.fresh [] (context_of last) w.front.more [] [] (in_work_none host (context_of last) w.front.more) in
          let all = lined_lies drives name from [] behind (history_after_all h came_so.es) [] tt (subst KeepsDatabase is keeps) (none_told w.front.more) lined lie in
          let bytes_is : came_so.bytes ≡ run.tells.bytes = append_cancel_left (tale.told run.t.tale) came_so.bytes run.tells.bytes (sym came_so.is_told ∙ run.tells.is_told) in
          record {
            es = came_so.es;
            course = came_so.course;
            come = subst (λ (l : List ℕ). AreOfRun host script l came_so.es) bytes_is (whole_run host here bytes run.m script h run.t.tale none w sure more_told);
            stands = came_so.known.stands;
            lie = subst (λ (l : List Exchange). ListsLie drives name from l (history_after_all h came_so.es)) (sym is) all;
          }

      by_work : Lies
      by_work = elim (none_or_all host here bytes run.m (subst (λ (a : At). IsNextFront host a bytes run.m) same at.by.lines.front)) [
        | inl nothing ↦ absurd (quiet_never nothing)
        | inr w ↦ by_whole w
      ]

    run_lies : KeepsDatabase rest → Lies
    run_lies keeps = elim (first_line host run.stretch (0 + length at.place.front) here at.by.lines.at at.place.left at.place.more) [
      | inl over ↦ by_work over.0 over.1 keeps
      | inr f ↦ by_line keeps (line_made f)
    ]

  -- Over runs, of any hosts.
  module _ (image : Image) where
    abbrev Behind : List Exchange → List Ran → Tale → Type 0
    Behind lines ran t = LieBehind drives name of_table image from lines ran t

    module _ (before : List Ran) (fresh : ℕ) (stretch : Stretch) (counts : Counts) (old m : Moment) (next : Tale) (script : Script) (life : Lived drives image before old.tale) (moment : IsMomentOf stretch old m) (found : MayBeFound m.tale next)
        (earlier : (front rest : List Exchange) → exchanges_by name before ≡ front ++ made ∷ rest → AreRefused front → KeepsDatabase rest → Behind rest before old.tale) where
      -- behind one of the host, whose word is new
      abbrev BehindRun : List ℕ → Type 0
      BehindRun other =
          IsNewWord other fresh before → (stands : RunMoment (host_of drives other fresh) script old.tale m.tale) → IsToldBy (host_of drives other fresh) stretch counts script old m → HasMetNone drives other before fresh script old.tale m.tale
          → (front rest : List Exchange) → exchanges_by name before ++ exchanges_of script stands.bytes ≡ front ++ made ∷ rest → AreRefused front → KeepsDatabase rest
          → Behind rest (record { host = other; fresh = fresh; script = script; bytes = stands.bytes } ∷ before) next

      own_lies : BehindRun name
      own_lies new_word stands tells clean front rest is refused keeps = by (parts (exchanges_by name before) (exchanges_of script stands.bytes) front rest made is) where
        here : Ran
        here = record { host = name; fresh = fresh; script = script; bytes = stands.bytes }

        same_bytes : tells.bytes ≡ stands.bytes
        same_bytes = append_cancel_left (tale.told old.tale) tells.bytes stands.bytes (sym tells.is_told ∙ stands.is_told)

        by : Parts (exchanges_by name before) (exchanges_of script stands.bytes) front rest made → Behind rest (here ∷ before) next
        by (in_first since first behind) =
            let lines = exchanges_of script stands.bytes in
            let was = earlier front since first refused (λ one has. keeps one (subst (λ (l : List Exchange). Contains l one) (sym behind) (Contains-append_left since lines one has))) in
            subst (λ (l : List Exchange). Behind l (here ∷ before) next) (sym behind)
            (own_behind drives name of_table image from since before fresh script stretch counts old m next new_word stands tells moment clean found
            (λ one has. keeps one (subst (λ (l : List Exchange). Contains l one) (sym behind) (Contains-append_right since lines one has))) was)
        by (in_second since until behind) =
            let run : Running drives name before script = record { made = image; fresh = fresh; stretch = stretch; start = counts; t = old; m = m; life = life; new_word = new_word; clean = clean; tells = tells; moment = moment } in
            let lies = run_lies before script run since rest (ap (exchanges_of script) same_bytes ∙ behind) (subst AreRefused until refused) keeps in
            behind_more drives name of_table image from rest before here old.tale next (its_start run of_table) lies.es lies.course (inl (refl, subst (λ (l : List ℕ). AreOfRun (host_of drives name fresh) script l lies.es) same_bytes lies.come)) lies.lie
            (ends drives name image of_table (history_after_all (start run of_table) lies.es) m.tale next found lies.stands)

      -- or one of any host
      any_lies : (other : List ℕ) → IsNewWord other fresh before → (stands : RunMoment (host_of drives other fresh) script old.tale m.tale) → IsToldBy (host_of drives other fresh) stretch counts script old m → HasMetNone drives other before fresh script old.tale m.tale
          → (front rest : List Exchange) → exchanges_by name (record { host = other; fresh = fresh; script = script; bytes = stands.bytes } ∷ before) ≡ front ++ made ∷ rest → AreRefused front → KeepsDatabase rest
          → Behind rest (record { host = other; fresh = fresh; script = script; bytes = stands.bytes } ∷ before) next
      any_lies other new_word stands tells clean front rest is refused keeps = elim (both_ways (bytes_eq other name)) [
        | inl does ↦
            let same : other ≡ name = (bytes_eq-Decides other name).0 does in
            let here = subst (λ (b : Bool). exchanges_by name before ++ (if b then exchanges_of script stands.bytes else []) ≡ front ++ made ∷ rest) does is in
            subst BehindRun (sym same) own_lies new_word stands tells clean front rest here refused keeps
        | inr never ↦
            let earlier_is = subst (λ (b : Bool). exchanges_by name before ++ (if b then exchanges_of script stands.bytes else []) ≡ front ++ made ∷ rest) never is in
            other_behind drives name of_table image from rest before other fresh script old.tale m.tale next (λ same. (let does = (bytes_eq-Decides other name).1 same in cc (does, never))) stands found
            (earlier front rest (sym (append-nil (exchanges_by name before)) ∙ earlier_is) refused keeps)
      ]

    module _ (first_told : List ℕ) (live : (ran : List Ran) (t : Tale) (runs : Runs drives [] (restarted image first_told) ran t) → HaveMetNone runs → Lived drives image ran t) where
      runs_lie : (ran : List Ran) (t : Tale) (runs : Runs drives [] (restarted image first_told) ran t) → HaveMetNone runs → (front rest : List Exchange) → exchanges_by name ran ≡ front ++ made ∷ rest → AreRefused front → KeepsDatabase rest → Behind rest ran t
      runs_lie ran t no_run clean front rest is refused keeps = absurd (never_in made (subst (λ (l : List Exchange). Contains l made) (sym is) (cut_has front rest made)))
      runs_lie ran t (run_on before other fresh stretch counts old m next script runs other_of new_word stands tells moment found) clean front rest is refused keeps =
          any_lies before fresh stretch counts old m next script (live before old.tale runs clean.0) moment found (λ f r p first k. runs_lie before old.tale runs clean.0 f r p first k) other new_word stands tells clean.1 front rest is refused keeps

    lies_behind : (ran : List Ran) (t : Tale) → Lived drives image ran t → (front rest : List Exchange) → exchanges_by name ran ≡ front ++ made ∷ rest → AreRefused front → KeepsDatabase rest → Behind rest ran t
    lies_behind ran t life = runs_lie life.told (λ other u runs clean. record { fair = life.fair; told = life.told; new = life.new; runs = runs; clean = clean }) ran t life.runs life.clean

-- So it is behind runs whose lines made the database.
pub made_behind : (drives : Geometry) (name : List ℕ) (of_table : Contains drives.hosts name) (image : Image) (ran : List Ran) (t : Tale) → Lived drives image ran t → (lines : List Exchange) (made : IsMadeOn lines) → exchanges_by name ran ≡ lines
    → LieBehind drives name of_table image (spread made.count made.slices) made.behind ran t
made_behind drives name of_table image ran t life lines made same =
    lies_behind drives name life.fair of_table made.made made.slices made.by.force made.count made.by.blocks made.by.asks made.by.told image ran t life made.before made.behind (same ∙ made.parts) made.by.first made.stays
