-- Where a run was before a line that it answered: the place between two lines, with the lines before it and those behind.
use Rattle.std.proofs.Common.{◌≡◌, inl, inr, ℕ, zero, suc, ◌+◌, ◌<◌, List, [], ◌∷◌, ◌++◌, length, take, Option, Some, None, refl, sym, ◌∙◌, ap, subst, append_assoc, length-append, arith}
use Rattle.mdv_base.specs.declared.refusal.Refusal.TheVariants.{LineTooLong}
use Rattle.mdv_engine_law.specs.Answers.{refusing}
use Rattle.mdv_shelf.specs.Failing.{Outcomes}
use Rattle.mdv_engine_law.specs.Line.{Kept}
use Rattle.mdv_engine_law.specs.Replies.{IsReply, text_of}
use Rattle.mdv_engine_law.specs.declared.answer.Answer.{Answer}
use Rattle.mdv_engine_law.specs.declared.answer.Answer.TheVariants.{Said, Over}
use Rattle.mdv_engine_law.specs.declared.host.Host.{Host}
use Rattle.mdv_engine_law.proofs.Plain.{nothing_answers}
use Rattle.mdv_port.specs.Script.{Script, at_end, line, spent, too_long}
use Rattle.mdv_run_law.specs.Run.{At, Counts, IsAnswered, IsNextFront, IsSaid, IsShown, LineTold, LinesTold, NextFront, NextLine, NextWrites, Stretch, TextWrites, drive_failures, no_line, one_more}
use Rattle.mdv_shelf.specs.Moments.{IsSince}
use Rattle.mdv_shelf.specs.Story.{Moment, Story, tale_of}
use Rattle.mdv_shelf.specs.Tale.{Tale}
use Rattle.mdv_status.specs.Telling.{Said as SaidBytes, replies_in}
use Rattle.mdv_volumes.specs.History.{History}
use Rattle.mdv_theorem.specs.Exchanges.{Exchange, IsTold, exchanges, exchanges_of}
use Rattle.mdv_theorem.proofs.Come.{HasMetNothing}
use Rattle.mdv_theorem.proofs.Leading.{IsLed, LedBy}
use Rattle.mdv_theorem.proofs.Sure.{IsSure, IsSureAt, since_last, sure_on}
use Rattle.mdv_theorem.proofs.Steps.{Between, Steps, known_at, line_led, next_reply, no_step, one_step, skipped, unreplied, whole_or_none}

-- calls may have failed on any drive
abbrev pub Any : ℕ → Type 0
Any drive = Unit {0}

abbrev reply_size : Option (List ℕ) → ℕ
reply_size None = 0
reply_size (Some reply) = length reply

-- how much was told to the lines of a script that stand before one
abbrev pub told_before : Script → List Exchange → ℕ
told_before at_end here = 0
told_before (spent lines bytes) here = 0
told_before (too_long more) here = length (text_of (refusing LineTooLong)) + told_before more here
told_before (line text more) [] = 0
told_before (line text more) (x ∷ here) = reply_size x.reply + told_before more here

-- where a reply is told, some byte is
some_told : (bytes reply : List ℕ) (replies : List (List ℕ)) → replies_in bytes ≡ reply ∷ replies → 0 < length bytes
some_told [] reply replies is = absurd (let never : [] ≡ reply ∷ replies = sym nothing_answers ∙ is in cc (never))
some_told (x ∷ bytes) reply replies is = omega arith

none_over : (count : ℕ) → replies_in (take count []) ≡ []
none_over zero = nothing_answers
none_over (suc count) = nothing_answers

module _ (host : Host) (start : Counts) (m : Moment) (stretch : Stretch) where
  -- the place before a line that was answered
  pub record Place (bytes : ℕ) (now last : At) (begun : Between host) (so_far rest : List ℕ) (here : List Exchange) (one : Exchange) (behind : List Exchange) : Type 1 where
    pub at : At
    pub front : List ℕ
    pub left : List ℕ
    pub parts : so_far ≡ front ++ left
    pub lines : LinesTold host stretch bytes now front at
    pub more : LinesTold host stretch (bytes + length front) at left last
    pub asked : exchanges_of at.script (left ++ rest) ≡ one ∷ behind
    pub size : length front ≡ told_before now.script here
    pub some : 0 < length (left ++ rest)
    pub sure : IsSure host at.kept
    pub upto : Steps host Any begun here (record { kept = at.kept; sure = sure })
    pub calls : Outcomes
    pub answer : Answer
    pub next : Kept
    pub comes : IsAnswered calls host at.kept one.text answer next
    pub said : IsSaid answer
    pub told : IsTold one (text_of answer)
    pub is_next : (more : Script) × (at.script ≡ line one.text more)

  -- a line before it
  module _ (bytes : ℕ) (now mid last : At) (piece left rest : List ℕ) (some : 0 < length piece) (line_told : LineTold host now piece mid) (shown : IsShown stretch bytes (length piece) mid) (here before : List Exchange) (one : Exchange) (behind : List Exchange)
      (begun next : Between host) (place : Place (bytes + length piece) mid last next left rest here one behind) (size : length piece + told_before mid.script here ≡ told_before now.script before) (steps : Steps host Any begun before (record { kept = place.at.kept; sure = place.sure })) where
    further : Place bytes now last begun (piece ++ left) rest before one behind
    further =
        let both = length-append piece place.front in
        let its = place.size in
        record {
          at = place.at;
          front = piece ++ place.front;
          left = place.left;
          parts = ap (λ (l : List ℕ). piece ++ l) place.parts ∙ sym (append_assoc piece place.front place.left);
          lines = one_more bytes now mid place.at piece place.front some line_told shown place.lines;
          more = subst (λ (n : ℕ). LinesTold host stretch n place.at place.left last) (omega (arith, both)) place.more;
          asked = place.asked;
          size = omega (arith, both, its, size);
          some = place.some;
          sure = place.sure;
          upto = steps;
          calls = place.calls;
          answer = place.answer;
          next = place.next;
          comes = place.comes;
          said = place.said;
          told = place.told;
          is_next = place.is_next;
        }

  -- it is the next line
  module _ (bytes : ℕ) (now last : At) (so_far rest : List ℕ) (lines : LinesTold host stretch bytes now so_far last) (some : 0 < length (so_far ++ rest)) (text : List ℕ) (more : Script) (is_script : now.script ≡ line text more) (one : Exchange) (behind : List Exchange)
      (asked : exchanges_of now.script (so_far ++ rest) ≡ one ∷ behind) (calls : Outcomes) (answer : Answer) (next : Kept) (comes : IsAnswered calls host now.kept one.text answer next) (said : IsSaid answer) (told : IsTold one (text_of answer)) (sure : IsSure host now.kept) (named : text ≡ one.text) where
    right_here : Place bytes now last (record { kept = now.kept; sure = sure }) so_far rest [] one behind
    right_here = record {
      at = now;
      front = [];
      left = so_far;
      parts = refl;
      lines = no_line bytes now;
      more = subst (λ (n : ℕ). LinesTold host stretch n now so_far last) (omega arith) lines;
      asked = asked;
      size = ap (λ (s : Script). told_before s []) (sym is_script);
      some = some;
      sure = sure;
      upto = no_step (record { kept = now.kept; sure = sure });
      calls = calls;
      answer = answer;
      next = next;
      comes = comes;
      said = said;
      told = told;
      is_next = (more, is_script ∙ ap (λ (t : List ℕ). line t more) named);
    }

  -- of the next line a whole reply was told
  next_place : (bytes : ℕ) (now last : At) (so_far rest : List ℕ) (lines : LinesTold host stretch bytes now so_far last) (later : Counts) (next : Kept) (more : Script) (answer : Answer) (sure : IsSure host now.kept) → IsSaid answer → 0 < length (so_far ++ rest)
      → (script : Script) → now.script ≡ script → NextLine host now.counts now.kept script answer later next more → (replies : List (List ℕ)) → replies_in (so_far ++ rest) ≡ text_of answer ∷ replies
      → ((front behind : List Exchange) (one : Exchange) (reply : List ℕ) → exchanges more replies ≡ front ++ one ∷ behind → IsTold one reply → (before : List Exchange) → (length (text_of answer) + told_before more front ≡ told_before script before)
      → ((mid : IsSure host next) → NextWrites host now.kept.memory script sure.tale mid.tale → LedBy host script (text_of answer) sure.history mid.history → (at : Between host) → Steps host Any (record { kept = next; sure = mid }) front at → Steps host Any (record { kept = now.kept; sure = sure }) before at)
      → Place bytes now last (record { kept = now.kept; sure = sure }) so_far rest before one behind)
      → (here behind : List Exchange) (one : Exchange) (reply : List ℕ) → exchanges script (text_of answer ∷ replies) ≡ here ++ one ∷ behind → IsTold one reply → Place bytes now last (record { kept = now.kept; sure = sure }) so_far rest here one behind
  next_place bytes now last so_far rest lines later next more answer sure said some at_end is comes replies split further here behind one reply parts told = absurd comes
  next_place bytes now last so_far rest lines later next more answer sure said some (spent n b) is comes replies split further here behind one reply parts told = absurd comes
  next_place bytes now last so_far rest lines later next more answer sure said some (too_long left) is comes replies split further here behind one reply parts told =
      further here behind one reply (subst (λ (s : Script). exchanges s replies ≡ here ++ one ∷ behind) (sym comes.0) parts) told here
      ((λ i. length (text_of (comes.3.0 i)) + told_before (comes.0 i) here))
      (λ mid writes led at steps. skipped (record { kept = now.kept; sure = sure }) (record { kept = next; sure = mid }) at here comes.3.1 led steps)
  next_place bytes now last so_far rest lines later next more answer sure said some (line text left) is comes replies split further [] behind one reply parts told =
      let same : ◌≡◌ {A = Exchange} (record { text = text; reply = Some (text_of answer) }) one = cc (parts) in
      let asked : exchanges_of now.script (so_far ++ rest) ≡ one ∷ behind = (λ i. exchanges (is i) (split i)) ∙ parts in
      right_here bytes now last so_far rest lines some text left is one behind asked (drive_failures now.counts later) answer next
      (subst (λ (e : Exchange). IsAnswered (drive_failures now.counts later) host now.kept e.text answer next) same comes.2) said (ap (λ (e : Exchange). e.reply) (sym same)) sure (ap (λ (e : Exchange). e.text) same)
  next_place bytes now last so_far rest lines later next more answer sure said some (line text left) is comes replies split further (x ∷ here) behind one reply parts told =
      let same : ◌≡◌ {A = Exchange} (record { text = text; reply = Some (text_of answer) }) x = cc (parts) in
      let left_parts : exchanges left replies ≡ here ++ one ∷ behind = cc (parts) in
      further here behind one reply (subst (λ (s : Script). exchanges s replies ≡ here ++ one ∷ behind) (sym comes.0) left_parts) told (x ∷ here)
      ((λ i. reply_size ((same i).reply) + told_before (comes.0 i) here))
      (λ mid writes led at steps. one_step (drive_failures now.counts later) (record { kept = now.kept; sure = sure }) (record { kept = next; sure = mid }) at x answer here (λ drive never. absurd (never tt)) (subst (λ (e : Exchange). IsAnswered (drive_failures now.counts later) host now.kept e.text answer next) same comes.2) said
      (ap (λ (e : Exchange). e.reply) (sym same)) (subst (λ (e : Exchange). TextWrites host now.kept.memory e.text sure.tale mid.tale) same writes) (subst (λ (e : Exchange). IsLed host e sure.history mid.history) same led) steps)

  module _ (here behind : List Exchange) (one : Exchange) (reply : List ℕ) (told : IsTold one reply) where
    nothing_told : (script : Script) (rest : List ℕ) → replies_in rest ≡ [] → {X : Type 1} → exchanges_of script rest ≡ here ++ one ∷ behind → X
    nothing_told script rest none parts = absurd (unreplied script here behind one reply (subst (λ (l : List (List ℕ)). exchanges script l ≡ here ++ one ∷ behind) none parts) told)

  front_place : (bytes : ℕ) (now : At) (rest : List ℕ) (sure : IsSure host now.kept) → NextFront host now rest m → (here behind : List Exchange) (one : Exchange) (reply : List ℕ) → exchanges_of now.script rest ≡ here ++ one ∷ behind → IsTold one reply → Place bytes now now (record { kept = now.kept; sure = sure }) [] rest here one behind
  front_place bytes now rest sure front here behind one reply parts told = by front.answer front.comes front.front where
    quiet : replies_in rest ≡ [] → Place bytes now now (record { kept = now.kept; sure = sure }) [] rest here one behind
    quiet none = nothing_told here behind one reply told now.script rest none parts

    by : (answer : Answer) → NextLine host now.counts now.kept now.script answer front.later front.next front.more → rest ≡ take front.count (text_of answer) → Place bytes now now (record { kept = now.kept; sure = sure }) [] rest here one behind
    by (Over end) comes is = quiet (ap replies_in is ∙ none_over front.count)
    by (Said this) comes is = elim (whole_or_none host now.counts front.later now.kept front.next now.script front.more (Said this) comes tt front.count) [
      | inl none ↦ quiet (ap replies_in is ∙ ap (λ (s : SaidBytes). s.replies) none)
      | inr whole ↦
          let reply_is = next_reply host now.counts front.later now.kept front.next now.script front.more (Said this) comes tt in
          let alone : replies_in rest ≡ text_of (Said this) ∷ [] = ap replies_in (is ∙ whole) ∙ ap (λ (s : SaidBytes). s.replies) reply_is.alone in
          next_place bytes now now [] rest (no_line bytes now) front.later front.next front.more (Said this) sure tt (some_told rest (text_of (Said this)) [] alone) now.script refl comes [] alone
          (λ before after other text none is_told all size steps. absurd (unreplied front.more before after other text none is_told))
          here behind one reply (subst (λ (l : List (List ℕ)). exchanges now.script l ≡ here ++ one ∷ behind) alone parts) told
    ]

  module _ (script : Script) (h : History) (t : Tale) (none : HasMetNothing host script h t m.tale) where
    pub lines_place : (bytes : ℕ) (now last : At) (so_far rest : List ℕ) (sure : IsSureAt host script h t now) → ((u : Story) → last.story ≡ Some u → IsSince (tale_of u) m.tale) → LinesTold host stretch bytes now so_far last → IsNextFront host last rest m → (here behind : List Exchange) (one : Exchange) (reply : List ℕ) → exchanges_of now.script (so_far ++ rest) ≡ here ++ one ∷ behind → IsTold one reply
        → Place bytes now last (record { kept = now.kept; sure = known_at host script h t now sure }) so_far rest here one behind
    lines_place bytes now last so_far rest sure since (no_line at there) (inl none) here behind one reply parts told = nothing_told here behind one reply told now.script rest (ap replies_in none ∙ nothing_answers) parts
    lines_place bytes now last so_far rest sure since (no_line at there) (inr front) here behind one reply parts told = front_place bytes now rest (known_at host script h t now sure) front here behind one reply parts told
    lines_place bytes now last so_far rest sure since (one_more at there mid end piece left some line_told shown lines) front here behind one reply parts told =
        let apart = append_assoc piece left rest in
        let whole : IsReply (text_of line_told.answer) = next_reply host now.counts mid.counts now.kept mid.kept now.script mid.script line_told.answer line_told.comes line_told.said in
        let replies : replies_in ((piece ++ left) ++ rest) ≡ text_of line_told.answer ∷ replies_in (left ++ rest) =
        ap replies_in (apart ∙ ap (λ (l : List ℕ). l ++ (left ++ rest)) line_told.as_text) ∙ ap (λ (s : SaidBytes). s.replies) (whole.behind (left ++ rest)) in
        let texts : length piece ≡ length (text_of line_told.answer) = ap length line_told.as_text in
        next_place bytes now last (piece ++ left) rest (one_more bytes now mid last piece left some line_told shown lines) mid.counts mid.kept mid.script line_told.answer (known_at host script h t now sure) line_told.said (some_told ((piece ++ left) ++ rest) (text_of line_told.answer) (replies_in (left ++ rest)) replies)
        now.script refl line_told.comes (replies_in (left ++ rest)) replies
        (λ after later other text there_is is_told all size steps.
        let on = sure_on host script h t m.tale none now mid piece line_told sure (since_last host stretch (bytes + length piece) mid last left m.tale lines since) in
        let place = lines_place (bytes + length piece) mid last left rest on.next since lines front after later other text there_is is_told in
        further bytes now mid last piece left rest some line_told shown after all other later (record { kept = now.kept; sure = known_at host script h t now sure }) (record { kept = mid.kept; sure = known_at host script h t mid on.next }) place (omega (arith, texts, size))
        (steps (known_at host script h t mid on.next) (line_told.writes sure.story on.next.story sure.is on.next.is) (line_led host script h t m.tale none now mid piece line_told sure on) (record { kept = place.at.kept; sure = place.sure }) place.upto))
        here behind one reply (subst (λ (l : List (List ℕ)). exchanges now.script l ≡ here ++ one ∷ behind) replies parts) told
