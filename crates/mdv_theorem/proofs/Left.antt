-- What a run leaves in a block of a volume, up to one of its moments: what was there as it began, or what one of its lines may have written.
use Rattle.std.proofs.Common.{◌≡◌, ◌⊎◌, inl, inr, ℕ, ◌+◌, List, [], ◌∷◌, ◌++◌, length, take, Some, None, refl, sym, ◌∙◌, ap, subst, append_assoc, Contains}
use Rattle.std.proofs.lemmas.List.{append-nil, append_cancel_left}
use Rattle.mdv_base.specs.declared.name.VolId.{VolId}
use Rattle.mdv_engine_law.specs.Line.{Kept}
use Rattle.mdv_engine_law.specs.Replies.{IsReply, text_of}
use Rattle.mdv_engine_law.specs.Awake.{Happening}
use Rattle.mdv_engine_law.specs.declared.answer.Answer.{Answer}
use Rattle.mdv_engine_law.specs.declared.answer.Answer.TheVariants.{Said, Over}
use Rattle.mdv_engine_law.specs.declared.host.Host.{Host}
use Rattle.mdv_engine_law.proofs.Plain.{nothing_answers, too_long_plain}
use Rattle.mdv_base.specs.declared.refusal.Refusal.TheVariants.{LineTooLong}
use Rattle.mdv_name.specs.declared.geometry.Geometry.{Geometry}
use Rattle.mdv_port.specs.Script.{Script, at_end, line, spent, too_long}
use Rattle.mdv_run_law.specs.Lives.{host_of}
use Rattle.mdv_run_law.specs.Standing.{ComeOf, NothingLeft, context_of}
use Rattle.mdv_run_law.specs.Run.{At, Counts, IsNextFront, IsMereRefusal, IsSaid, LineTold, LinesTold, NextFront, NextLine, NextWrites, Stretch, TextWrites, drive_failures, no_line, one_more}
use Rattle.mdv_run_law.specs.Told.{WorkWrites}
use Rattle.mdv_run_law.proofs.Course.{answer_plain, refused_plain, said_reply}
use Rattle.mdv_engine_law.specs.Replies.{IsPlainAnswer}
use Rattle.mdv_shelf.specs.Area.{KeptOutside, nowhere}
use Rattle.mdv_shelf.specs.Story.{Moment, Story, tale_of}
use Rattle.mdv_shelf.specs.Moments.{IsSince}
use Rattle.mdv_shelf.specs.Tale.{Tale, told}
use Rattle.mdv_map.specs.Maps.{Map}
use Rattle.mdv_store_law.specs.Machine as machine
use Rattle.mdv_store_law.proofs.Machine.{after_more, course_more}
use Rattle.mdv_status.specs.Telling.{Said as SaidBytes, replies_in}
use Rattle.mdv_config.specs.Slices.{IsSound}
use Rattle.mdv_plan.specs.declared.table.Table.{Table}
use Rattle.mdv_volumes.specs.History.{Event, History, history_after, history_after_all}
use Rattle.mdv_theorem.specs.Exchanges.{Exchange, MayHaveBegun, exchanges, exchanges_of}
use Rattle.mdv_theorem.proofs.Given.{Given}
use Rattle.mdv_theorem.proofs.Lined.{AreLined, AreQuiet, AreReplied, alone, idle_quiet, line_replied, lined_more, said_of}
use Rattle.mdv_theorem.proofs.Lines.{never_in}
use Rattle.mdv_theorem.proofs.Come.{HasCome, HasMetNothing}
use Rattle.mdv_theorem.proofs.Ends.{TakeVolume, lined_keeps, take_before, take_behind}
use Rattle.mdv_theorem.proofs.Later.{IsLasting, lasting_on}
use Rattle.mdv_theorem.proofs.Place.{Spot}
use Rattle.mdv_theorem.proofs.Leaving.{Leaves, begun_or_quiet, leaves_more, none_leaves, own, text_leaves}
use Rattle.mdv_theorem.proofs.Replying.{none_or_whole}
use Rattle.mdv_theorem.proofs.Steps.{known_at, take_none}
use Rattle.mdv_theorem.proofs.Sure.{IsSure, IsSureAt, SureOn, since_last, sure_on}

-- the answer is told, or nothing is
pub said_or_over : (answer : Answer) → IsSaid answer ⊎ (text_of answer ≡ [])
said_or_over (Said this) = inl tt
said_or_over (Over end) = inr refl

module _ (host : Host) where
  pub script_plain : (now later : Counts) (kept next : Kept) (script more : Script) (answer : Answer) → NextLine host now kept script answer later next more → IsPlainAnswer answer
  script_plain now later kept next at_end more answer is = absurd is
  script_plain now later kept next (spent lines bytes) more answer is = absurd is
  script_plain now later kept next (too_long left) more answer is = refused_plain (drive_failures now later) host kept next answer LineTooLong too_long_plain is.3.0
  script_plain now later kept next (line text left) more answer is = answer_plain (drive_failures now later) host kept next answer text is.2

  -- behind it the script goes on
  script_is : (now later : Counts) (kept next : Kept) (script more : Script) (answer : Answer) → NextLine host now kept script answer later next more → (replies : List (List ℕ))
      → exchanges script (text_of answer ∷ replies) ≡ said_of script (text_of answer) ++ exchanges more replies
  script_is now later kept next at_end more answer is replies = absurd is
  script_is now later kept next (spent lines bytes) more answer is replies = absurd is
  script_is now later kept next (too_long left) more answer is replies = ap (λ (s : Script). exchanges s replies) (sym is.0)
  script_is now later kept next (line text left) more answer is replies = ap (λ (s : Script). said_of (line text left) (text_of answer) ++ exchanges s replies) (sym is.0)

  module _ (stretch : Stretch) where
    -- the exchanges of lines that were told
    abbrev pub lines_here : (n : ℕ) (now last : At) (told : List ℕ) → LinesTold host stretch n now told last → List Exchange
    lines_here n now last told (no_line bytes at) = []
    lines_here n now last told (one_more bytes at mid end piece left some line_told shown lines) = said_of now.script (text_of line_told.answer) ++ lines_here (n + length piece) mid last left lines

    pub replies_behind : (now mid : At) (piece left rest : List ℕ) (line_told : LineTold host now piece mid) → replies_in ((piece ++ left) ++ rest) ≡ text_of line_told.answer ∷ replies_in (left ++ rest)
    replies_behind now mid piece left rest line_told =
        let whole : IsReply (text_of line_told.answer) = said_reply line_told.answer (script_plain now.counts mid.counts now.kept mid.kept now.script mid.script line_told.answer line_told.comes) line_told.said in
        ap replies_in (append_assoc piece left rest ∙ ap (λ (l : List ℕ). l ++ (left ++ rest)) line_told.as_text) ∙ ap (λ (s : SaidBytes). s.replies) (whole.behind (left ++ rest))

    -- they are those of the script, and behind them come those of what is left of it
    pub lines_say : (n : ℕ) (now last : At) (told rest : List ℕ) (lines : LinesTold host stretch n now told last) → exchanges_of now.script (told ++ rest) ≡ lines_here n now last told lines ++ exchanges_of last.script rest
    lines_say n now last told rest (no_line bytes at) = refl
    lines_say n now last told rest (one_more bytes at mid end piece left some line_told shown lines) =
        ap (exchanges now.script) (replies_behind now mid piece left rest line_told)
        ∙ script_is now.counts mid.counts now.kept mid.kept now.script mid.script line_told.answer line_told.comes (replies_in (left ++ rest))
        ∙ ap (λ (l : List Exchange). said_of now.script (text_of line_told.answer) ++ l) (lines_say (n + length piece) mid last left rest lines)
        ∙ sym (append_assoc (said_of now.script (text_of line_told.answer)) (lines_here (n + length piece) mid last left lines) (exchanges_of last.script rest))

module _ (drives : Geometry) (name : List ℕ) (sound : IsSound drives) (of_table : Contains drives.hosts name) (given : Given) (fresh : ℕ) where
  abbrev host : Host
  host = host_of drives name fresh

  -- of a run under way, and a history with which the drives stood as it began
  module _ (script : Script) (h : History) (t m : Tale) (none : HasMetNothing host script h t m) where
    abbrev pub KnownAt : At → Type 0
    KnownAt at = IsSureAt host script h t at

    abbrev pub CameBefore : At → Type 0
    CameBefore at = (u : Story) → at.story ≡ Some u → IsSince (tale_of u) m

    -- each table that a boot may find there has the volume, where it lay
    abbrev pub LastsAt : VolId → Map → (at : At) → KnownAt at → Type 0
    LastsAt volume v at sure = IsLasting drives name volume v (history_after_all h sure.come.es)

    -- where lines led from a place between two: the history went on by their events
    pub record Gone (now last : At) (sure : KnownAt now) (lines : List Exchange) : Type 0 where
      pub next : KnownAt last
      pub fs : List Event
      pub course : machine.IsCourse history_after (Happening host) (history_after_all h sure.come.es) fs
      pub lined : AreLined drives name lines fs
      pub is : history_after_all h next.come.es ≡ history_after_all (history_after_all h sure.come.es) fs

    -- so what lasted lasts, or one of them may have taken it away
    pub gone_lasts : (now last : At) (sure : KnownAt now) (lines : List Exchange) (gone : Gone now last sure lines) (volume : VolId) (v : Map) → LastsAt volume v now sure → TakeVolume volume lines ⊎ LastsAt volume v last gone.next
    gone_lasts now last sure lines gone volume v lasts = elim (lined_keeps drives name volume lines gone.fs gone.lined) [
      | inl takes ↦ inl takes
      | inr keeps ↦ inr (subst (IsLasting drives name volume v) (sym gone.is) (lasting_on drives name volume v (history_after_all h sure.come.es) gone.fs gone.course keeps lasts))
    ]

    -- a line leads on
    module _ (now mid : At) (piece : List ℕ) (line_told : LineTold host now piece mid) (sure : KnownAt now) (on : SureOn host script h t m none now mid sure) where
      abbrev reply : List ℕ
      reply = text_of line_told.answer

      -- what was told is the line's reply
      bytes_are : on.came.bytes ≡ reply
      bytes_are = append_cancel_left (told (tale_of sure.story)) on.came.bytes piece (sym on.came.is_told ∙ line_told.passage.told sure.story on.next.story sure.is on.next.is) ∙ line_told.as_text

      replies_are : replies_in on.came.bytes ≡ reply ∷ []
      replies_are =
          ap replies_in bytes_are ∙ ap (λ (s : SaidBytes). s.replies) (said_reply line_told.answer (script_plain host now.counts mid.counts now.kept mid.kept now.script mid.script line_told.answer line_told.comes) line_told.said).alone

      by_script : (left : Script) → NextLine host now.counts now.kept left line_told.answer mid.counts mid.kept mid.script → ComeOf host (NothingLeft (context_of mid.kept.memory)) (context_of now.kept.memory) left (reply ∷ []) on.came.fs
          → AreLined drives name (said_of left reply) on.came.fs
      by_script at_end comes come = absurd comes
      by_script (spent rows limit) comes come = absurd comes
      by_script (too_long more) comes come =
          let same : on.came.fs ≡ come.0 = come.2 ∙ ap (λ (l : List Event). come.0 ++ l) come.4.0 ∙ append-nil come.0 in
          subst AreQuiet (sym same) (idle_quiet host come.0 come.3)
      by_script (line text more) comes come =
          let same : on.came.fs ≡ come.0 = come.2 ∙ ap (λ (l : List Event). come.0 ++ l) come.6.0 ∙ append-nil come.0 in
          alone drives name fresh (record { text = text; reply = Some reply }) on.came.fs (subst (AreReplied drives name text reply) (sym same) (line_replied drives name fresh text reply (context_of now.kept.memory) come.3 come.0 come.4))

      step_goes : Gone now mid sure (said_of now.script reply)
      step_goes = record {
        next = on.next;
        fs = on.came.fs;
        course = on.came.course;
        lined = by_script now.script line_told.comes (subst (λ (l : List (List ℕ)). ComeOf host (NothingLeft (context_of mid.kept.memory)) (context_of now.kept.memory) now.script l on.came.fs) replies_are on.came.come);
        is = ap (λ (c : HasCome host script h t mid.kept.memory mid.script (tale_of on.next.story)). history_after_all h c.es) on.its ∙ ap (history_after_all h) on.came.all ∙ after_more history_after h sure.come.es on.came.fs;
      }

    pub line_goes : (now mid : At) (piece : List ℕ) (line_told : LineTold host now piece mid) (sure : KnownAt now) → CameBefore mid → Gone now mid sure (said_of now.script (text_of line_told.answer))
    line_goes now mid piece line_told sure since = step_goes now mid piece line_told sure (sure_on host script h t m none now mid piece line_told sure since)

    gone_more : (now mid last : At) (sure : KnownAt now) (lines more : List Exchange) (first : Gone now mid sure lines) → Gone mid last first.next more → Gone now last sure (lines ++ more)
    gone_more now mid last sure lines more first rest =
        let there = history_after_all h sure.come.es in
        record {
          next = rest.next;
          fs = first.fs ++ rest.fs;
          course = course_more history_after (Happening host) there first.fs rest.fs first.course (subst (λ (g : History). machine.IsCourse history_after (Happening host) g rest.fs) first.is rest.course);
          lined = lined_more drives name lines more first.fs rest.fs first.lined rest.lined;
          is = rest.is ∙ ap (λ (g : History). history_after_all g rest.fs) first.is ∙ sym (after_more history_after there first.fs rest.fs);
        }

    pub lines_go : (stretch : Stretch) (n : ℕ) (now last : At) (front : List ℕ) (lines : LinesTold host stretch n now front last) (sure : KnownAt now) → CameBefore last → Gone now last sure (lines_here host stretch n now last front lines)
    lines_go stretch n now last front (no_line bytes at) sure since = record { next = sure; fs = []; course = tt; lined = λ deed has. never_in deed has; is = refl }
    lines_go stretch n now last front (one_more bytes at mid end piece left some line_told shown lines) sure since =
        let first = line_goes now mid piece line_told sure (since_last host stretch (n + length piece) mid last left m lines since) in
        gone_more now mid last sure (said_of now.script (text_of line_told.answer)) (lines_here host stretch (n + length piece) mid last left lines) first (lines_go stretch (n + length piece) mid last left lines first.next since)

  module _ (final : Table) (volume : VolId) (number : ℕ) (spot : Spot (own drives name).drives final volume number) where
    abbrev AreLeft : List Exchange → Tale → Tale → Type 0
    AreLeft es t u = Leaves volume number spot.at.drive spot.at.block es t u

    abbrev its_map : Map
    its_map = spot.map

    -- a place between two lines, by a history by which each table that a boot may find has the volume
    pub record Lasting (kept : Kept) : Type 0 where
      pub sure : IsSure host kept
      pub lasts : IsLasting drives name volume spot.map sure.history

    -- by one of these lines
    module _ (kept : Kept) (place : Lasting kept) (one : Exchange) (t u : Tale) (begun : MayHaveBegun one) where
      line_left : TextWrites host kept.memory one.text t u → AreLeft (one ∷ []) t u
      line_left wrote = text_leaves drives name sound of_table final volume number spot fresh (record { kept = kept; sure = place.sure }) place.lasts one t u begun wrote

    script_leaves : (now later : Counts) (kept next : Kept) (script more : Script) (answer : Answer) (t u : Tale) → NextLine host now kept script answer later next more → IsSaid answer → NextWrites host kept.memory script t u
        → (IsMereRefusal answer → KeptOutside nowhere t u) → Lasting kept → AreLeft (said_of script (text_of answer)) t u
    script_leaves now later kept next at_end more answer t u is said wrote quiet place = absurd is
    script_leaves now later kept next (spent lines bytes) more answer t u is said wrote quiet place = absurd is
    script_leaves now later kept next (too_long left) more answer t u is said wrote quiet place = none_leaves drives name sound of_table final volume number spot [] t u wrote
    script_leaves now later kept next (line text left) more answer t u is said wrote quiet place = elim (begun_or_quiet one answer (answer_plain (drive_failures now later) host kept next answer text is.2) said refl) [
      | inl begun ↦ line_left kept place one t u begun wrote
      | inr none ↦ none_leaves drives name sound of_table final volume number spot (one ∷ []) t u (quiet none)
    ] where
      one : Exchange
      one = record { text = text; reply = Some (text_of answer) }

    pub line_leaves : (now mid : At) (piece : List ℕ) (line_told : LineTold host now piece mid) (s v : Story) → now.story ≡ Some s → mid.story ≡ Some v → Lasting now.kept → AreLeft (said_of now.script (text_of line_told.answer)) (tale_of s) (tale_of v)
    line_leaves now mid piece line_told s v is is_v place =
        script_leaves now.counts mid.counts now.kept mid.kept now.script mid.script line_told.answer (tale_of s) (tale_of v) line_told.comes line_told.said (line_told.writes s v is is_v) (λ quiet. line_told.unwritten (inl quiet) s v is is_v) place

    -- the line in work, which was told nothing, or its whole reply
    module _ (text : List ℕ) (more : Script) (kept : Kept) (place : Lasting kept) (s m : Tale) (wrote : TextWrites host kept.memory text s m) where
      untold_leaves : AreLeft (exchanges (line text more) []) s m
      untold_leaves = line_left kept place (record { text = text; reply = None }) s m (λ refusal told. absurd (cc (told))) wrote

      told_leaves : (reply : List ℕ) → MayHaveBegun (record { text = text; reply = Some reply }) → AreLeft (exchanges (line text more) (reply ∷ [])) s m
      told_leaves reply begun =
          let one : Exchange = record { text = text; reply = Some reply } in
          leaves_more volume number spot.at.drive spot.at.block (one ∷ []) (exchanges more []) s m m (line_left kept place one s m begun wrote) (λ x may. inl may)

    module _ (at : At) (s : Story) (m : Moment) (is : at.story ≡ Some s) (rest : List ℕ) (front : IsNextFront host at rest m) (place : Lasting at.kept) where
      -- what was told of the line
      module _ (text : List ℕ) (more : Script) (same : at.script ≡ line text more) (wrote : TextWrites host at.kept.memory text (tale_of s) m.tale) where
        quiet_leaves : replies_in rest ≡ [] → AreLeft (exchanges_of at.script rest) (tale_of s) m.tale
        quiet_leaves none = subst (λ (l : List Exchange). AreLeft l (tale_of s) m.tale) (sym (ap (exchanges at.script) none ∙ ap (λ (c : Script). exchanges c []) same)) (untold_leaves text more at.kept place (tale_of s) m.tale wrote)

        whole_leaves : (told : NextFront host at rest m) → IsSaid told.answer → IsPlainAnswer told.answer → rest ≡ text_of told.answer → replies_in rest ≡ text_of told.answer ∷ [] → AreLeft (exchanges_of at.script rest) (tale_of s) m.tale
        whole_leaves told said plain whole alone =
            let one : Exchange = record { text = text; reply = Some (text_of told.answer) } in
            elim (begun_or_quiet one told.answer plain said refl) [
              | inl begun ↦ subst (λ (l : List Exchange). AreLeft l (tale_of s) m.tale) (sym (ap (exchanges at.script) alone ∙ ap (λ (c : Script). exchanges c (text_of told.answer ∷ [])) same))
                  (told_leaves text more at.kept place (tale_of s) m.tale wrote (text_of told.answer) begun)
              | inr none ↦ none_leaves drives name sound of_table final volume number spot (exchanges_of at.script rest) (tale_of s) m.tale (given.unwritten host at rest m told whole none s is)
            ]

        front_leaves : NextFront host at rest m → AreLeft (exchanges_of at.script rest) (tale_of s) m.tale
        front_leaves told = by (said_or_over told.answer) where
          plain : IsPlainAnswer told.answer
          plain = script_plain host at.counts told.later at.kept told.next at.script told.more told.answer told.comes

          by : IsSaid told.answer ⊎ (text_of told.answer ≡ []) → AreLeft (exchanges_of at.script rest) (tale_of s) m.tale
          by (inr over) = quiet_leaves (ap replies_in (told.front ∙ ap (take told.count) over ∙ take_none told.count) ∙ nothing_answers)
          by (inl said) = elim (none_or_whole told.answer plain said told.count) [
            | inl none ↦ quiet_leaves (ap replies_in told.front ∙ ap (λ (b : SaidBytes). b.replies) none)
            | inr whole ↦ whole_leaves told said plain (told.front ∙ whole) (ap replies_in (told.front ∙ whole) ∙ ap (λ (b : SaidBytes). b.replies) (said_reply told.answer plain said).alone)
          ]

        work_told : IsNextFront host at rest m → AreLeft (exchanges_of at.script rest) (tale_of s) m.tale
        work_told (inl none) = quiet_leaves (ap replies_in none ∙ nothing_answers)
        work_told (inr told) = front_leaves told

      pub work_leaves : WorkWrites host at.kept.memory at.script (tale_of s) m.tale → AreLeft (exchanges_of at.script rest) (tale_of s) m.tale
      work_leaves (inl kept) = none_leaves drives name sound of_table final volume number spot (exchanges_of at.script rest) (tale_of s) m.tale kept
      work_leaves (inr (text, more, same, spelled, asks, wrote)) = work_told text more same (inr (spelled, asks, wrote)) front

    -- Where the volume lasts it lasts over lines, which leave no other values than these; unless one of them may have taken it away.
    module _ (script : Script) (h : History) (t m : Tale) (none : HasMetNothing host script h t m) where
      abbrev Sure : At → Type 0
      Sure = KnownAt script h t m none

      abbrev pub Lasts : (at : At) → Sure at → Type 0
      Lasts at sure = LastsAt script h t m none volume its_map at sure

      pub lasting_at : (at : At) (sure : Sure at) → Lasts at sure → Lasting at.kept
      lasting_at at sure lasts = record { sure = known_at host script h t at sure; lasts = lasts }

      -- what lines leave, one behind the other
      abbrev pub LinesLeave : (now last : At) → Sure now → List Exchange → Type 0
      LinesLeave now last sure lines = (end : Sure last) × Lasts last end × AreLeft lines (tale_of sure.story) (tale_of end.story)

      pub lines_leave : (stretch : Stretch) (n : ℕ) (now last : At) (front : List ℕ) (lines : LinesTold host stretch n now front last) (sure : Sure now) → CameBefore script h t m none last → Lasts now sure
          → TakeVolume volume (lines_here host stretch n now last front lines) ⊎ LinesLeave now last sure (lines_here host stretch n now last front lines)
      lines_leave stretch n now last front (no_line bytes at) sure since lasts = inr (sure, lasts, λ x may. inl may)
      lines_leave stretch n now last front (one_more bytes at mid end piece left some line_told shown lines) sure since lasts =
          let said = said_of now.script (text_of line_told.answer) in
          let more = lines_here host stretch (n + length piece) mid last left lines in
          let first = line_goes script h t m none now mid piece line_told sure (since_last host stretch (n + length piece) mid last left m lines since) in
          let here = line_leaves now mid piece line_told sure.story first.next.story sure.is first.next.is (lasting_at now sure lasts) in
          elim (gone_lasts script h t m none now mid sure said first volume its_map lasts) [
            | inl takes ↦ inl (take_before volume said more takes)
            | inr still ↦ elim (lines_leave stretch (n + length piece) mid last left lines first.next since still) [
              | inl takes ↦ inl (take_behind volume said more takes)
              | inr (end, on, rest) ↦ inr (end, on, leaves_more volume number spot.at.drive spot.at.block said more (tale_of sure.story) (tale_of first.next.story) (tale_of end.story) here rest)
            ]
          ]
