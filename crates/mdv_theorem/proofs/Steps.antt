-- A run's lines one by one: what is kept before and behind each of them, with its exchange.
use Rattle.std.proofs.lemmas.List.{append-nil, append_cancel_left}
use Rattle.std.proofs.Common.{◌≡◌, ◌⊎◌, inl, inr, ℕ, zero, suc, ◌+◌, ◌≤◌, ◌<◌, List, [], ◌∷◌, ◌++◌, length, take, Some, None, refl, sym, ◌∙◌, ap, subst, append_assoc, length-append, arith, Contains}
use Rattle.mdv_base.specs.Causes.{Rose}
use Rattle.mdv_base.proofs.Causes.{rose_of_once, rose_within}
use Rattle.mdv_engine_law.specs.Answers.{accepted}
use Rattle.mdv_shelf.specs.Failing.{Outcomes}
use Rattle.mdv_engine_law.specs.Line.{IsRebooted, Kept, Stays, contents}
use Rattle.mdv_engine_law.specs.Replies.{IsPlainAnswer, IsReply, text_of}
use Rattle.mdv_engine_law.specs.declared.answer.Answer.{Answer}
use Rattle.mdv_engine_law.specs.declared.answer.Answer.TheVariants.{Said, Over}
use Rattle.mdv_engine_law.specs.declared.host.Host.{Host}
use Rattle.mdv_base.specs.declared.refusal.Refusal.TheVariants.{LineTooLong}
use Rattle.mdv_engine_law.proofs.Plain.{nothing_answers, too_long_plain}
use Rattle.mdv_name.specs.declared.geometry.Geometry.{Geometry}
use Rattle.mdv_port.specs.Script.{Script, at_end, line, spent, too_long}
use Rattle.mdv_run_law.specs.Lives.{IsHistoryOf, Ran, host_of}
use Rattle.mdv_run_law.specs.Run.{AreShown, At, Counts, IsAnswered, IsNextFront, IsSaid, IsShown, LineTold, LinesTold, NextFront, NextLine, NextWrites, Stretch, TextWrites, drive_failures, no_line, one_more, behind_boot, started}
use Rattle.mdv_run_law.specs.Standing.{ComeOf, NothingLeft, context_of}
use Rattle.mdv_run_law.specs.Told.{RunToldBy}
use Rattle.mdv_run_law.proofs.Course.{answer_plain, refused_plain, said_reply}
use Rattle.mdv_shelf.specs.Calls.{OnDrive}
use Rattle.mdv_shelf.specs.Everywhere.{Image}
use Rattle.mdv_shelf.specs.Moments.{IsSince}
use Rattle.mdv_shelf.specs.Story.{Moment, Story, tale_of}
use Rattle.mdv_shelf.specs.Tale.{Tale, told}
use Rattle.mdv_status.specs.Telling.{Said as SaidBytes, replies_in, said_in, unsaid}
use Rattle.mdv_store_law.proofs.Machine.{after_more}
use Rattle.mdv_volumes.specs.History.{History, history_after, history_after_all}
use Rattle.mdv_theorem.specs.Exchanges.{Exchange, IsTold, exchanges, exchanges_by, exchanges_of}
use Rattle.mdv_theorem.specs.Running.{Running, exchanges_now}
use Rattle.mdv_theorem.proofs.Clean.{its_start, none_by, own_by, start_by}
use Rattle.mdv_theorem.proofs.Come.{HasCome, HasMetNothing}
use Rattle.mdv_theorem.proofs.Leading.{IsIdled, IsLed, LedBy, led_by}
use Rattle.mdv_theorem.proofs.Lined.{said_of}
use Rattle.mdv_theorem.proofs.Replying.{none_or_whole}
use Rattle.mdv_theorem.proofs.Sure.{IsSure, IsSureAt, SureOn, since_last, sure_boot, sure_on}

-- What is kept between two lines, and that a history is known there.
pub record Between (host : Host) : Type 0 where
  pub kept : Kept
  pub sure : IsSure host kept

-- Lines that led from one such place to another, each with its exchange, by calls of which none failed on a drive that didn't fail in the run. What was too long changed nothing, and has no exchange. The
-- history that is known goes on by the events of each line.
pub data Steps (host : Host) (Failed : ℕ → Type 0) : Between host → List Exchange → Between host → Type 1 where
  no_step : (at : Between host) → Steps host Failed at [] at
  skipped : (from mid last : Between host) (rest : List Exchange) → Stays from.kept mid.kept → IsIdled host from.sure.history mid.sure.history → Steps host Failed mid rest last → Steps host Failed from rest last
  one_step : (calls : Outcomes) (from mid last : Between host) (one : Exchange) (answer : Answer) (rest : List Exchange) → ((drive : ℕ) → (Failed drive → ⊥) → (calls drive).some → ⊥) → IsAnswered calls host from.kept one.text answer mid.kept
      → IsSaid answer → IsTold one (text_of answer) → TextWrites host from.kept.memory one.text from.sure.tale mid.sure.tale → IsLed host one from.sure.history mid.sure.history → Steps host Failed mid rest last → Steps host Failed from (one ∷ rest) last

-- what is so of the lines so far and of what is kept, at each place before one of these lines
abbrev pub EachSo : (host : Host) (Failed : ℕ → Type 0) (Q : List Exchange → Kept → Type 0) (lines : List Exchange) (from last : Between host) (es : List Exchange) → Steps host Failed from es last → Type 0
EachSo host Failed Q lines from last es (no_step at) = Unit {0}
EachSo host Failed Q lines from last es (skipped at mid end rest same idle steps) = EachSo host Failed Q lines mid last es steps
EachSo host Failed Q lines from last es (one_step calls at mid end one answer rest unfailed comes said told writes led steps) = Q lines at.kept × EachSo host Failed Q (lines ++ one ∷ []) mid last rest steps

-- and at each place of a run between two lines that it told
abbrev pub EachTold : (host : Host) (stretch : Stretch) (bytes : ℕ) (now last : At) (so_far : List ℕ) → LinesTold host stretch bytes now so_far last → (List Exchange → Kept → Type 0) → List Exchange → Type 0
EachTold host stretch bytes now last so_far (no_line at there) = λ Q lines. Q lines there.kept × Unit {0}
EachTold host stretch bytes now last so_far (one_more at there mid end piece left some line_told shown more) =
    λ Q lines. Q lines there.kept × EachTold host stretch (bytes + length piece) mid last left more Q (lines ++ said_of there.script (text_of line_told.answer))

-- one reply was told of a line
pub told_once : (one : Exchange) (a b : List ℕ) → IsTold one a → IsTold one b → a ≡ b
told_once one a b first second = let same : Some a ≡ Some b = sym first ∙ second in cc (same)

module _ (host : Host) (Failed : ℕ → Type 0) where
  -- the first of these lines, and those behind it
  pub record Stepped (from : Between host) (one : Exchange) (rest : List Exchange) (last : Between host) : Type 1 where
    pub kept : Kept
    pub sure : IsSure host kept
    pub mid : Kept
    pub next : IsSure host mid
    pub before : Steps host Failed from [] (record { kept = kept; sure = sure })
    pub calls : Outcomes
    pub unfailed : (drive : ℕ) → (Failed drive → ⊥) → (calls drive).some → ⊥
    pub answer : Answer
    pub comes : IsAnswered calls host kept one.text answer mid
    pub said : IsSaid answer
    pub told : IsTold one (text_of answer)
    pub writes : TextWrites host kept.memory one.text sure.tale next.tale
    pub led : IsLed host one sure.history next.history
    pub after : Steps host Failed (record { kept = mid; sure = next }) rest last

  first_step : (from last : Between host) (one : Exchange) (es rest : List Exchange) → es ≡ one ∷ rest → Steps host Failed from es last → Stepped from one rest last
  first_step from last one es rest is (no_step at) = absurd (cc (is))
  first_step from last one es rest is (skipped at mid end left same idle steps) =
      let behind = first_step mid last one es rest is steps in
      record {
        kept = behind.kept;
        sure = behind.sure;
        mid = behind.mid;
        next = behind.next;
        before = skipped from mid (record { kept = behind.kept; sure = behind.sure }) [] same idle behind.before;
        calls = behind.calls;
        unfailed = behind.unfailed;
        answer = behind.answer;
        comes = behind.comes;
        said = behind.said;
        told = behind.told;
        writes = behind.writes;
        led = behind.led;
        after = behind.after;
      }
  first_step from last one es rest is (one_step calls at mid end first answer left unfailed comes said told writes led steps) =
      let same : first ≡ one = cc (is) in
      let more : left ≡ rest = cc (is) in
      record {
        kept = from.kept;
        sure = from.sure;
        mid = mid.kept;
        next = mid.sure;
        before = no_step from;
        calls = calls;
        unfailed = unfailed;
        answer = answer;
        comes = subst (λ (e : Exchange). IsAnswered calls host from.kept e.text answer mid.kept) same comes;
        said = said;
        told = subst (λ (e : Exchange). IsTold e (text_of answer)) same told;
        writes = subst (λ (e : Exchange). TextWrites host from.kept.memory e.text from.sure.tale mid.sure.tale) same writes;
        led = subst (λ (e : Exchange). IsLed host e from.sure.history mid.sure.history) same led;
        after = subst (λ (l : List Exchange). Steps host Failed mid l last) more steps;
      }

  pub stepped : (from last : Between host) (one : Exchange) (rest : List Exchange) → Steps host Failed from (one ∷ rest) last → Stepped from one rest last
  stepped from last one rest steps = first_step from last one (one ∷ rest) rest refl steps

  pub steps_more : (from mid last : Between host) (a b : List Exchange) → Steps host Failed from a mid → Steps host Failed mid b last → Steps host Failed from (a ++ b) last
  steps_more from mid last a b (no_step at) behind = behind
  steps_more from mid last a b (skipped at next end left same idle steps) behind = skipped from next last (a ++ b) same idle (steps_more next mid last a b steps behind)
  steps_more from mid last a b (one_step calls at next end first answer left unfailed comes said told writes led steps) behind =
      one_step calls from next last first answer (left ++ b) unfailed comes said told writes led (steps_more next mid last left b steps behind)

  -- where two parts of them meet
  pub steps_cut : (a b : List Exchange) (from last : Between host) → Steps host Failed from (a ++ b) last → (mid : Between host) × Steps host Failed from a mid × Steps host Failed mid b last
  steps_cut [] b from last steps = (from, no_step from, steps)
  steps_cut (one ∷ a) b from last steps =
      let first = stepped from last one (a ++ b) steps in
      let at : Between host = record { kept = first.kept; sure = first.sure } in
      let next : Between host = record { kept = first.mid; sure = first.next } in
      let rest = steps_cut a b next last first.after in
      (rest.0, steps_more from at rest.0 [] (one ∷ a) first.before (one_step first.calls at next rest.0 one first.answer a first.unfailed first.comes first.said first.told first.writes first.led rest.1), rest.2)

pub take_none : (count : ℕ) → take {A = ℕ} count [] ≡ []
take_none zero = refl
take_none (suc count) = refl

-- what is asked of a script of which nothing is told has no reply
pub unreplied : (script : Script) (here later : List Exchange) (one : Exchange) (reply : List ℕ) → exchanges script [] ≡ here ++ one ∷ later → IsTold one reply → ⊥
unreplied at_end [] later one reply is told = absurd (cc (is))
unreplied at_end (x ∷ here) later one reply is told = absurd (cc (is))
unreplied (spent lines bytes) [] later one reply is told = absurd (cc (is))
unreplied (spent lines bytes) (x ∷ here) later one reply is told = absurd (cc (is))
unreplied (too_long more) [] later one reply is told = absurd (cc (is))
unreplied (too_long more) (x ∷ here) later one reply is told = absurd (cc (is))
unreplied (line text more) [] later one reply is told =
    let same : ◌≡◌ {A = Exchange} (record { text = text; reply = None }) one = cc (is) in
    let none : None ≡ one.reply = ap (λ (e : Exchange). e.reply) same in
    absurd (cc (none, told))
unreplied (line text more) (x ∷ []) later one reply is told = absurd (cc (is))
unreplied (line text more) (x ∷ (y ∷ here)) later one reply is told = absurd (cc (is))

-- what the next line comes to is told in one reply
module _ (host : Host) (now mid : Counts) (first next : Kept) where
  pub next_plain : (script more : Script) (answer : Answer) → NextLine host now first script answer mid next more → IsPlainAnswer answer
  next_plain at_end more answer is = absurd is
  next_plain (spent lines bytes) more answer is = absurd is
  next_plain (too_long left) more answer is = refused_plain (drive_failures now mid) host first next answer LineTooLong too_long_plain is.3.0
  next_plain (line text left) more answer is = answer_plain (drive_failures now mid) host first next answer text is.2

  pub next_reply : (script more : Script) (answer : Answer) → NextLine host now first script answer mid next more → IsSaid answer → IsReply (text_of answer)
  next_reply script more answer is said = said_reply answer (next_plain script more answer is) said

  pub whole_or_none : (script more : Script) (answer : Answer) → NextLine host now first script answer mid next more → IsSaid answer → (count : ℕ)
      → (said_in (take count (text_of answer)) ≡ unsaid (take count (text_of answer))) ⊎ (take count (text_of answer) ≡ text_of answer)
  whole_or_none script more answer is said count = none_or_whole answer (next_plain script more answer is) said count

-- what is known at a place of a run's story
module _ (host : Host) (script : Script) (h : History) (t : Tale) where
  abbrev pub known_at : (at : At) → IsSureAt host script h t at → IsSure host at.kept
  known_at at is = record { tale = tale_of is.story; history = history_after_all h is.come.es; known = is.come.known; reads = is.reads }

  -- and how it goes on over a line that was told
  module _ (m : Tale) (none : HasMetNothing host script h t m) (now mid : At) (piece : List ℕ) (line_told : LineTold host now piece mid) (sure : IsSureAt host script h t now) (on : SureOn host script h t m none now mid sure) where
    abbrev reply : List ℕ
    reply = text_of line_told.answer

    bytes_are : on.came.bytes ≡ reply
    bytes_are =
        append_cancel_left (told (tale_of sure.story)) on.came.bytes piece (sym on.came.is_told ∙ line_told.passage.told sure.story on.next.story sure.is on.next.is) ∙ line_told.as_text

    replies_are : replies_in on.came.bytes ≡ reply ∷ []
    replies_are = ap replies_in bytes_are ∙ ap (λ (s : SaidBytes). s.replies) (next_reply host now.counts mid.counts now.kept mid.kept now.script mid.script line_told.answer line_told.comes line_told.said).alone

    behind_is : history_after_all (history_after_all h sure.come.es) on.came.fs ≡ history_after_all h on.next.come.es
    behind_is =
        sym (ap (λ (c : HasCome host script h t mid.kept.memory mid.script (tale_of on.next.story)). history_after_all h c.es) on.its ∙ ap (history_after_all h) on.came.all ∙ after_more history_after h sure.come.es on.came.fs)

    pub line_led : LedBy host now.script reply (history_after_all h sure.come.es) (history_after_all h on.next.come.es)
    line_led = led_by host now.script reply (context_of now.kept.memory) (context_of mid.kept.memory) (history_after_all h sure.come.es) (history_after_all h on.next.come.es) on.came.fs on.came.course behind_is
        (subst (λ (l : List (List ℕ)). ComeOf host (NothingLeft (context_of mid.kept.memory)) (context_of now.kept.memory) now.script l on.came.fs) replies_are on.came.come)

module _ (host : Host) (start : Counts) (m : Moment) where
  -- a call on the drive failed in the run
  abbrev Fails : ℕ → Type 0
  Fails drive = Rose (start.drives drive) (m.faults (OnDrive drive))

  -- no drive had failed more often by these counts than at the moment, nor less often than at the start
  abbrev IsBefore : Counts → Type 0
  IsBefore now = (drive : ℕ) → now.drives drive ≤ m.faults (OnDrive drive)

  abbrev IsBehind : Counts → Type 0
  IsBehind now = (drive : ℕ) → start.drives drive ≤ now.drives drive

  pub unfailing : (now then : Counts) → IsBehind now → IsBefore then → (drive : ℕ) → (Fails drive → ⊥) → (drive_failures now then drive).some → ⊥
  unfailing now then low high drive never once = never (rose_within (start.drives drive) (now.drives drive) (then.drives drive) (m.faults (OnDrive drive)) (low drive) (high drive) (rose_of_once (now.drives drive) (then.drives drive) once))

  -- where the run came to the line, from there on
  record Found (Each : (List Exchange → Kept → Type 0) → List Exchange → Type 0) (now : Counts) (first : Between host) (here : List Exchange) (one : Exchange) : Type 1 where
    upto : IsBefore now
    kept : Kept
    sure : IsSure host kept
    next : Kept
    steps : Steps host Fails first here (record { kept = kept; sure = sure })
    so : (Q : List Exchange → Kept → Type 0) (lines : List Exchange) → Each Q lines → EachSo host Fails Q lines first (record { kept = kept; sure = sure }) here steps
    calls : Outcomes
    unfailed : (drive : ℕ) → (Fails drive → ⊥) → (calls drive).some → ⊥
    answer : Answer
    comes : IsAnswered calls host kept one.text answer next
    said : IsSaid answer
    told : IsTold one (text_of answer)

  pub no_less : (now mid : Counts) → ((drive : ℕ) → now.drives drive ≤ mid.drives drive) → IsBefore mid → IsBefore now
  no_less now mid rose high drive = let x = rose drive in let y = high drive in omega arith

  -- or behind what comes next of the script
  record FoundBehind (Each : (List Exchange → Kept → Type 0) → List Exchange → Type 0) (mid : Counts) (next : Kept) (script : Script) (reply : List ℕ) (first : Between host) (here : List Exchange) (one : Exchange) : Type 1 where
    sure : IsSure host next
    writes : NextWrites host first.kept.memory script first.sure.tale sure.tale
    led : LedBy host script reply first.sure.history sure.history
    found : Found Each mid (record { kept = next; sure = sure }) here one

  -- the next line, whose reply was told whole, or one behind it
  line_found : (Each : (List Exchange → Kept → Type 0) → List Exchange → Type 0) (now mid : Counts) (first : Between host) (next : Kept) (script more : Script) (answer : Answer) (replies : List (List ℕ)) → IsBehind now → IsBefore mid → NextLine host now first.kept script answer mid next more → IsSaid answer
      → ((here later : List Exchange) (one : Exchange) (reply : List ℕ) → exchanges more replies ≡ here ++ one ∷ later → IsTold one reply → FoundBehind Each mid next script (text_of answer) first here one)
      → (here later : List Exchange) (one : Exchange) (reply : List ℕ) → exchanges script (text_of answer ∷ replies) ≡ here ++ one ∷ later → IsTold one reply → Found (λ Q lines. Q lines first.kept × Each Q (lines ++ said_of script (text_of answer))) now first here one
  line_found Each now mid first next at_end more answer replies low high is said behind here later one reply parts told = absurd is
  line_found Each now mid first next (spent lines bytes) more answer replies low high is said behind here later one reply parts told = absurd is
  line_found Each now mid first next (too_long left) more answer replies low high is said behind here later one reply parts told =
      let there = behind here later one reply (subst (λ (s : Script). exchanges s replies ≡ here ++ one ∷ later) (sym is.0) parts) told in
      let found = there.found in
      record {
        upto = no_less now mid is.1.drives high;
        kept = found.kept;
        sure = found.sure;
        next = found.next;
        steps = skipped first (record { kept = next; sure = there.sure }) (record { kept = found.kept; sure = found.sure }) here is.3.1 there.led found.steps;
        so = λ Q lines each. found.so Q lines (subst (Each Q) (append-nil lines) each.1);
        calls = found.calls;
        unfailed = found.unfailed;
        answer = found.answer;
        comes = found.comes;
        said = found.said;
        told = found.told;
      }
  line_found Each now mid first next (line text left) more answer replies low high is said behind [] later one reply parts told =
      let same : ◌≡◌ {A = Exchange} (record { text = text; reply = Some (text_of answer) }) one = cc (parts) in
      record {
        upto = no_less now mid is.1.drives high;
        kept = first.kept;
        sure = first.sure;
        next = next;
        steps = no_step first;
        so = λ Q lines each. tt;
        calls = drive_failures now mid;
        unfailed = unfailing now mid low high;
        answer = answer;
        comes = subst (λ (e : Exchange). IsAnswered (drive_failures now mid) host first.kept e.text answer next) same is.2;
        said = said;
        told = ap (λ (e : Exchange). e.reply) (sym same);
      }
  line_found Each now mid first next (line text left) more answer replies low high is said behind (x ∷ here) later one reply parts told =
      let same : ◌≡◌ {A = Exchange} (record { text = text; reply = Some (text_of answer) }) x = cc (parts) in
      let rest : exchanges left replies ≡ here ++ one ∷ later = cc (parts) in
      let there = behind here later one reply (subst (λ (s : Script). exchanges s replies ≡ here ++ one ∷ later) (sym is.0) rest) told in
      let found = there.found in
      record {
        upto = no_less now mid is.1.drives high;
        kept = found.kept;
        sure = found.sure;
        next = found.next;
        steps = one_step (drive_failures now mid) first (record { kept = next; sure = there.sure }) (record { kept = found.kept; sure = found.sure }) x answer here (unfailing now mid low high)
            (subst (λ (e : Exchange). IsAnswered (drive_failures now mid) host first.kept e.text answer next) same is.2) said (ap (λ (e : Exchange). e.reply) (sym same))
            (subst (λ (e : Exchange). TextWrites host first.kept.memory e.text first.sure.tale there.sure.tale) same there.writes)
            (subst (λ (e : Exchange). IsLed host e first.sure.history there.sure.history) same there.led) found.steps;
        so = λ Q lines each. (each.0, found.so Q (lines ++ x ∷ []) (subst (λ (e : Exchange). Each Q (lines ++ e ∷ [])) same each.1));
        calls = found.calls;
        unfailed = found.unfailed;
        answer = found.answer;
        comes = found.comes;
        said = found.said;
        told = found.told;
      }

  pub next_rises : (now mid : Counts) (first next : Kept) (script more : Script) (answer : Answer) → NextLine host now first script answer mid next more → (drive : ℕ) → now.drives drive ≤ mid.drives drive
  next_rises now mid first next at_end more answer is = absurd is
  next_rises now mid first next (spent lines bytes) more answer is = absurd is
  next_rises now mid first next (too_long left) more answer is = is.1.drives
  next_rises now mid first next (line text left) more answer is = is.1.drives

  -- where the last line was answered of which anything was told
  front_found : (now : At) (rest : List ℕ) (sure : IsSure host now.kept) → IsBehind now.counts → NextFront host now rest m → (here later : List Exchange) (one : Exchange) (reply : List ℕ) → exchanges_of now.script rest ≡ here ++ one ∷ later → IsTold one reply → Found (λ Q lines. Q lines now.kept × Unit {0}) now.counts (record { kept = now.kept; sure = sure }) here one
  front_found now rest sure low front here later one reply parts told = by front.answer front.comes front.front where
    quiet : rest ≡ [] → Found (λ Q lines. Q lines now.kept × Unit {0}) now.counts (record { kept = now.kept; sure = sure }) here one
    quiet none = absurd (unreplied now.script here later one reply (subst (λ (l : List (List ℕ)). exchanges now.script l ≡ here ++ one ∷ later) (ap replies_in none ∙ nothing_answers) parts) told)

    by : (answer : Answer) → NextLine host now.counts now.kept now.script answer front.later front.next front.more → rest ≡ take front.count (text_of answer) → Found (λ Q lines. Q lines now.kept × Unit {0}) now.counts (record { kept = now.kept; sure = sure }) here one
    by (Over end) comes is = quiet (is ∙ take_none front.count)
    by (Said this) comes is = elim (whole_or_none host now.counts front.later now.kept front.next now.script front.more (Said this) comes tt front.count) [
      | inl none ↦
          let unsaid : replies_in rest ≡ [] = ap replies_in is ∙ ap (λ (s : SaidBytes). s.replies) none in
          absurd (unreplied now.script here later one reply (subst (λ (l : List (List ℕ)). exchanges now.script l ≡ here ++ one ∷ later) unsaid parts) told)
      | inr whole ↦
          let reply_is = next_reply host now.counts front.later now.kept front.next now.script front.more (Said this) comes tt in
          let alone : replies_in rest ≡ text_of (Said this) ∷ [] = ap replies_in (is ∙ whole) ∙ ap (λ (s : SaidBytes). s.replies) reply_is.alone in
          line_found (λ Q lines. Unit {0}) now.counts front.later (record { kept = now.kept; sure = sure }) front.next now.script front.more (Said this) [] low (λ drive. (let same = front.by_then drive in omega arith)) comes tt
          (λ before behind other text none is_told. absurd (unreplied front.more before behind other text none is_told)) here later one reply (subst (λ (l : List (List ℕ)). exchanges now.script l ≡ here ++ one ∷ later) alone parts) told
    ]

  module _ (stretch : Stretch) (t : Moment) (shown : (bytes piece : ℕ) (at : At) → IsShown stretch bytes piece at → AreShown bytes piece at t m) (script : Script) (h : History) (none : HasMetNothing host script h t.tale m.tale) where
    -- the place came before the moment
    abbrev pub CameBefore : At → Type 0
    CameBefore at = (u : Story) → at.story ≡ Some u → IsSince (tale_of u) m.tale

    -- by a reply's last byte no drive had failed less often than as it was told
    shown_before : (bytes : ℕ) (at : At) (piece rest : List ℕ) → 0 < length piece → IsShown stretch bytes (length piece) at → length (told m.tale) ≡ length (told t.tale) + (bytes + length (piece ++ rest)) → IsBefore at.counts
    shown_before bytes at piece rest some is size =
        let both = length-append piece rest in
        ((shown bytes (length piece) at is).behind (omega (arith, size, both, some))).drives

    lines_found : (bytes : ℕ) (now last : At) (so_far rest : List ℕ) (sure : IsSureAt host script h t.tale now) → CameBefore last → IsBehind now.counts → length (told m.tale) ≡ length (told t.tale) + (bytes + length (so_far ++ rest)) → (these : LinesTold host stretch bytes now so_far last) → IsNextFront host last rest m
        → (here later : List Exchange) (one : Exchange) (reply : List ℕ) → exchanges_of now.script (so_far ++ rest) ≡ here ++ one ∷ later → IsTold one reply → Found (EachTold host stretch bytes now last so_far these) now.counts (record { kept = now.kept; sure = known_at host script h t.tale now sure }) here one
    lines_found bytes now last so_far rest sure since low size (no_line at there) (inl none) here later one reply parts is_told =
        absurd (unreplied now.script here later one reply (subst (λ (l : List (List ℕ)). exchanges now.script l ≡ here ++ one ∷ later) (ap replies_in none ∙ nothing_answers) parts) is_told)
    lines_found bytes now last so_far rest sure since low size (no_line at there) (inr front) here later one reply parts is_told = front_found now rest (known_at host script h t.tale now sure) low front here later one reply parts is_told
    lines_found bytes now last so_far rest sure since low size (one_more at there mid end piece left some line_told is_shown lines) front here later one reply parts is_told =
        let apart = append_assoc piece left rest in
        let sizes : length ((piece ++ left) ++ rest) ≡ length (piece ++ (left ++ rest)) = ap length apart in
        let both = length-append piece (left ++ rest) in
        let high = shown_before bytes mid piece (left ++ rest) some is_shown (omega (arith, size, sizes)) in
        let whole : IsReply (text_of line_told.answer) = next_reply host now.counts mid.counts now.kept mid.kept now.script mid.script line_told.answer line_told.comes line_told.said in
        let replies : replies_in ((piece ++ left) ++ rest) ≡ text_of line_told.answer ∷ replies_in (left ++ rest) =
        ap replies_in (apart ∙ ap (λ (l : List ℕ). l ++ (left ++ rest)) line_told.as_text) ∙ ap (λ (s : SaidBytes). s.replies) (whole.behind (left ++ rest)) in
        let rises = next_rises now.counts mid.counts now.kept mid.kept now.script mid.script line_told.answer line_told.comes in
        let next = sure_on host script h t.tale m.tale none now mid piece line_told sure (since_last host stretch (bytes + length piece) mid last left m.tale lines since) in
        let behind : IsBehind mid.counts = λ drive. (let x = low drive in let y = rises drive in omega arith) in
        line_found (EachTold host stretch (bytes + length piece) mid last left lines) now.counts mid.counts (record { kept = now.kept; sure = known_at host script h t.tale now sure }) mid.kept now.script mid.script line_told.answer (replies_in (left ++ rest)) low high line_told.comes line_told.said
        (λ before after other text there is_too. record {
          sure = known_at host script h t.tale mid next.next;
          writes = line_told.writes sure.story next.next.story sure.is next.next.is;
          led = line_led host script h t.tale m.tale none now mid piece line_told sure next;
          found = lines_found (bytes + length piece) mid last left rest next.next since behind (omega (arith, size, sizes, both)) lines front before after other text there is_too;
        })
        here later one reply (subst (λ (l : List (List ℕ)). exchanges now.script l ≡ here ++ one ∷ later) replies parts) is_told

-- Where the run was when it came to a line that it answered: the boot, the lines before, and what the line came to.
module _ {drives : Geometry} {name : List ℕ} {before : List Ran} {script : Script} (run : Running drives name before script) where
  -- a call on the drive failed in the run by then
  abbrev pub Failed : ℕ → Type 0
  Failed drive = Rose (run.start.drives drive) (run.m.faults (OnDrive drive))

  pub record Reached {held : Image} (of : IsHistoryOf drives name held before run.t.tale) (here : List Exchange) (one : Exchange) : Type 1 where
    pub booted : Outcomes
    pub first : Kept
    pub first_sure : IsSure (host_of drives name run.fresh) first
    pub kept : Kept
    pub sure : IsSure (host_of drives name run.fresh) kept
    pub next : Kept
    pub begun : IsIdled (host_of drives name run.fresh) (start_by run of) first_sure.history
    pub boots : IsRebooted booted (host_of drives name run.fresh) (started (contents run.t.tale)) accepted first
    pub unbooted : (drive : ℕ) → (Failed drive → ⊥) → (booted drive).some → ⊥
    pub steps : Steps (host_of drives name run.fresh) Failed (record { kept = first; sure = first_sure }) here (record { kept = kept; sure = sure })
    pub each : (Q : List Exchange → Kept → Type 0) → ((by : RunToldBy (host_of drives name run.fresh) run.stretch run.start run.t.tale script run.tells.bytes run.m)
        → EachTold (host_of drives name run.fresh) run.stretch 0 (behind_boot by.booted by.by by.kept script) by.lines.at by.lines.so_far by.lines.lines Q (exchanges_by name before))
        → EachSo (host_of drives name run.fresh) Failed Q (exchanges_by name before) (record { kept = first; sure = first_sure }) (record { kept = kept; sure = sure }) here steps
    pub calls : Outcomes
    pub unfailed : (drive : ℕ) → (Failed drive → ⊥) → (calls drive).some → ⊥
    pub answer : Answer
    pub comes : IsAnswered calls (host_of drives name run.fresh) kept one.text answer next
    pub said : IsSaid answer
    pub told : IsTold one (text_of answer)

module _ {drives : Geometry} {name : List ℕ} {before : List Ran} {script : Script} (run : Running drives name before script) {held : Image} (of : IsHistoryOf drives name held before run.t.tale) where
  abbrev host : Host
  host = host_of drives name run.fresh

  reached_by : RunToldBy host run.stretch run.start run.t.tale script run.tells.bytes run.m → (here later : List Exchange) (one : Exchange) (reply : List ℕ) → exchanges_now run ≡ here ++ one ∷ later → IsTold one reply → Reached run of here one
  reached_by by here later one reply parts is_told =
      let lines = by.lines in
      let size : length (told run.m.tale) ≡ length (told run.t.tale) + (0 + length (lines.so_far ++ lines.rest)) =
      ap length run.tells.is_told ∙ length-append (told run.t.tale) run.tells.bytes ∙ ap (λ (l : List ℕ). length (told run.t.tale) + length l) lines.parts ∙ (let n = length (lines.so_far ++ lines.rest) in omega arith) in
      let none = none_by run of in
      let up = sure_boot host run.stretch run.start run.t.tale script run.tells.bytes run.m by run.moment.begins.0 run.moment.begins.1 (start_by run of) of.stands (own_by run of) none in
      let sure = up.0 in
      let found = lines_found host run.start run.m run.stretch run.t run.moment.shows script (start_by run of) none 0 (behind_boot by.booted by.by by.kept script) lines.at lines.so_far lines.rest sure (λ u is. (lines.work u is).moment.since) by.rose.drives size lines.lines lines.front here later one reply
      (subst (λ (l : List ℕ). exchanges_of script l ≡ here ++ one ∷ later) lines.parts parts) is_told in
      record {
        booted = drive_failures run.start by.booted;
        first = by.kept;
        first_sure = known_at host script (start_by run of) run.t.tale (behind_boot by.booted by.by by.kept script) sure;
        begun = record { es = sure.come.es; course = sure.come.course; is = refl; idle = up.1 };
        kept = found.kept;
        sure = found.sure;
        next = found.next;
        boots = by.boots;
        unbooted = unfailing host run.start run.m run.start by.booted (λ drive. omega arith) found.upto;
        steps = found.steps;
        each = λ Q so. found.so Q (exchanges_by name before) (so by);
        calls = found.calls;
        unfailed = found.unfailed;
        answer = found.answer;
        comes = found.comes;
        said = found.said;
        told = found.told;
      }

  pub reached_from : (here later : List Exchange) (one : Exchange) (reply : List ℕ) → exchanges_now run ≡ here ++ one ∷ later → IsTold one reply → Reached run of here one
  reached_from here later one reply parts is_told = elim run.tells.tells [
    | inl none ↦ absurd (unreplied script here later one reply (subst (λ (l : List (List ℕ)). exchanges script l ≡ here ++ one ∷ later) (ap replies_in none.0 ∙ nothing_answers) parts) is_told)
    | inr by ↦ reached_by by here later one reply parts is_told
  ]

-- from the history of which most is known
pub reached : {drives : Geometry} {name : List ℕ} {before : List Ran} {script : Script} (run : Running drives name before script) (of_table : Contains drives.hosts name) (here later : List Exchange) (one : Exchange) (reply : List ℕ) → exchanges_now run ≡ here ++ one ∷ later → IsTold one reply → Reached run (its_start run of_table) here one
reached run of_table here later one reply parts is_told = reached_from run (its_start run of_table) here later one reply parts is_told
