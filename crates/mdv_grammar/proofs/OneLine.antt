-- A line asks one thing at most.
use Rattle.std.proofs.Common.{◌≡◌, ℕ, Bool, true, cond, ◌==◌, Some, refl, sym, ◌∙◌, ap, subst, List, [], ◌∷◌, codes, arith}
use Rattle.std.proofs.lemmas.Fmt.{decimal_injective}
use Rattle.mdv_base.specs.declared.drive.DriveName.{DriveName}
use Rattle.mdv_name.specs.declared.volume.VolName.{VolName}
use Rattle.mdv_name.proofs.Drives.{drive_text_injective}
use Rattle.mdv_text.specs.Words.{words}
use Rattle.mdv_command.specs.declared.command.Command.{Command}
use Rattle.mdv_command.specs.declared.command.SetChange.{SetChange}
use Rattle.mdv_command.specs.declared.given.Given.{Given}
use Rattle.mdv_grammar.specs.declared.line.Line.{Line}
use Rattle.mdv_grammar.specs.declared.line.Line.TheVariants.{Nothing, Tab, End, Boot, Command as Asked}
use Rattle.mdv_grammar.specs.declared.sets.SetForm.{SetForm}
use Rattle.mdv_grammar.specs.declared.sets.SetForm.TheVariants.{Show, Change}
use Rattle.mdv_grammar.specs.declared.sets.ChangeForm.{ChangeForm}
use Rattle.mdv_grammar.specs.declared.sets.ChangeForm.TheVariants.{Hosts, AddDrives, DeleteDrives, Take, Release}
use Rattle.mdv_grammar.specs.declared.verb.Head.{Head}
use Rattle.mdv_grammar.specs.declared.verb.Head.TheVariants.{OfVerb, OfSets, OfRead, OfWrite, OfFill, OfIdle}
use Rattle.mdv_grammar.specs.declared.verb.Verb.{Verb}
use Rattle.mdv_grammar.specs.declared.verb.Verb.TheVariants.{Metadb, Metainit, Metaclear, Metattach, Metadetach, Metaoffline, Metaonline, Metareplace, Metahs, Metastat}
use Rattle.mdv_command.specs.Given.{has, length_given}
use Rattle.mdv_text.specs.Hex.{SpellsBlock}
use Rattle.mdv_grammar.specs.Line.{AsksVerb, AsksRead, AsksWrite, AsksFill, AsksIdle, AsksBehind, IsByte, IsCommand, Asks, IsLine, is_comment}
use Rattle.mdv_grammar.specs.Operands.{AsksParts}
use Rattle.mdv_grammar.specs.Sets.{EachIsDrive, host_change, IsChange, AsksSets, AsksSet, set_form}
use Rattle.mdv_grammar.specs.Verb.{flags_of, values_of, head_text}
use Rattle.mdv_grammar.proofs.Addresses.{head_word, tail_words, one_address}
use Rattle.mdv_grammar.proofs.Asked.{or_form}
use Rattle.mdv_grammar.proofs.Heads.{one_head}
use Rattle.mdv_command.proofs.OneOption.{one_options}
use Rattle.mdv_grammar.proofs.Owned.{one_parts}
use Rattle.mdv_text.proofs.Pairs.{one_block, one_pair}

one_drives : (ws : List (List ℕ)) (ds es : List DriveName) → EachIsDrive ws ds → EachIsDrive ws es → ds ≡ es
one_drives [] [] [] first second = refl
one_drives [] [] (e ∷ es) first second = absurd second
one_drives [] (d ∷ ds) es first second = absurd first
one_drives (w ∷ ws) [] es first second = absurd first
one_drives (w ∷ ws) (d ∷ ds) [] first second = absurd second
one_drives (w ∷ ws) (d ∷ ds) (e ∷ es) first second =
    let here = drive_text_injective d e first.1 second.1 (sym first.0 ∙ second.0) in
    let rest = one_drives ws ds es first.2 second.2 in
    cc

one_change : (form : ChangeForm) (gs : List Given) (ws : List (List ℕ)) (a b : SetChange) → IsChange form gs ws a → IsChange form gs ws b → a ≡ b
one_change (Hosts form) gs ws a b first second = first.2 ∙ ap (host_change form) (sym first.1.words ∙ second.1.words) ∙ sym second.2
one_change AddDrives gs ws a b first second = first.2 ∙ ap (λ (l : List DriveName). SetChange.AddDrives l (length_given gs)) (one_drives ws first.0 second.0 first.1.form second.1.form) ∙ sym second.2
one_change DeleteDrives gs ws a b first second = first.2 ∙ ap (λ (l : List DriveName). SetChange.DeleteDrives l (has 102 gs)) (one_drives ws first.0 second.0 first.1.form second.1.form) ∙ sym second.2
one_change Take gs ws a b first second = first.1 ∙ sym second.1
one_change Release gs ws a b first second = first.1 ∙ sym second.1

one_sets : (form : SetForm) (gs : List Given) (ws : List (List ℕ)) (c d : Command) → AsksSets form gs ws c → AsksSets form gs ws d → c ≡ d
one_sets Show gs ws c d first second = first.1 ∙ sym second.1
one_sets (Change form) gs ws c d first second =
    let change = one_change form gs ws first.1 second.1 first.3 second.3 in
    let named : Some first.0 ≡ Some second.0 = sym first.2 ∙ second.2 in
    let set : first.0 ≡ second.0 = cc in
    first.4 ∙ ap (λ (l : List ℕ). Command.ChangeSet l first.1) set ∙ ap (λ (s : SetChange). Command.ChangeSet second.0 s) change ∙ sym second.4

one_set_line : (ws : List (List ℕ)) (c d : Command) → AsksSet ws c → AsksSet ws d → c ≡ d
one_set_line ws c d first second =
    let same = one_options (codes "adfhmrt") (codes "ls") ws first.operands second.operands first.given second.given first.options.0 second.options.0 in
    let forms : Some first.form ≡ Some second.form = sym first.named ∙ ap set_form same.0 ∙ second.named in
    let one : first.form ≡ second.form = ap (or_form second.form) forms in
    let a : AsksSets second.form first.given first.operands c = subst (λ (f : SetForm). AsksSets f first.given first.operands c) one first.asks in
    let b : AsksSets second.form second.given first.operands c = subst (λ (l : List Given). AsksSets second.form l first.operands c) same.0 a in
    one_sets second.form second.given second.operands c d (subst (λ (l : List (List ℕ)). AsksSets second.form second.given l c) same.1 b) second.asks

one_verb : (verb : Verb) (ws : List (List ℕ)) (c d : Command) → AsksVerb verb ws c → AsksVerb verb ws d → c ≡ d
one_verb verb ws c d first second =
    let same = one_options (flags_of verb) (values_of verb) ws first.operands second.operands first.given second.given first.options.0 second.options.0 in
    let a : AsksParts verb second.given first.operands c = subst (λ (l : List Given). AsksParts verb l first.operands c) same.0 first.asks in
    one_parts verb second.given second.operands c d (subst (λ (l : List (List ℕ)). AsksParts verb second.given l c) same.1 a) second.asks

one_read : (ws : List (List ℕ)) (c d : Command) → AsksRead ws c → AsksRead ws d → c ≡ d
one_read ws c d first second =
    let same = one_address ws (first.word ∷ []) (second.word ∷ []) first.volume second.volume first.at second.at first.address second.address in
    let word : first.word ≡ second.word = ap head_word same.2 in
    let count = decimal_injective first.count second.count first.counted.fits second.counted.fits (sym first.counted.number ∙ word ∙ second.counted.number) in
    first.is ∙ ap (λ (v : VolName). Command.Read v first.at first.count) same.0 ∙ ap (λ (n : ℕ). Command.Read second.volume n first.count) same.1 ∙ ap (Command.Read second.volume second.at) count ∙ sym second.is

one_write : (ws : List (List ℕ)) (c d : Command) → AsksWrite ws c → AsksWrite ws d → c ≡ d
one_write ws c d first second =
    let same = one_address ws (first.hex ∷ []) (second.hex ∷ []) first.volume second.volume first.at second.at first.address second.address in
    let hex : first.hex ≡ second.hex = ap head_word same.2 in
    let block = one_block second.hex first.block second.block (subst (λ (l : List ℕ). SpellsBlock l first.block) hex first.spelled) second.spelled in
    first.is ∙ ap (λ (v : VolName). Command.Write v first.at first.block) same.0 ∙ ap (λ (n : ℕ). Command.Write second.volume n first.block) same.1 ∙ ap (Command.Write second.volume second.at) block ∙ sym second.is

one_byte : (p : List ℕ) (m n : ℕ) → IsByte p m → IsByte p n → m ≡ n
one_byte [] m n first second = absurd first
one_byte (a ∷ []) m n first second = absurd first
one_byte (a ∷ b ∷ []) m n first second = one_pair a b m n first second
one_byte (a ∷ b ∷ d ∷ p) m n first second = absurd first

one_fill : (ws : List (List ℕ)) (c d : Command) → AsksFill ws c → AsksFill ws d → c ≡ d
one_fill ws c d first second =
    let same = one_address ws (first.word ∷ first.pair ∷ []) (second.word ∷ second.pair ∷ []) first.volume second.volume first.at second.at first.address second.address in
    let word : first.word ≡ second.word = ap head_word same.2 in
    let pair : first.pair ≡ second.pair = ap (λ (l : List (List ℕ)). head_word (tail_words l)) same.2 in
    let count = decimal_injective first.count second.count first.counted.fits second.counted.fits (sym first.counted.number ∙ word ∙ second.counted.number) in
    let byte = one_byte second.pair first.byte second.byte (subst (λ (l : List ℕ). IsByte l first.byte) pair first.filled) second.filled in
    first.is ∙ ap (λ (v : VolName). Command.Fill v first.at first.count first.byte) same.0 ∙ ap (λ (n : ℕ). Command.Fill second.volume n first.count first.byte) same.1
    ∙ ap (λ (n : ℕ). Command.Fill second.volume second.at n first.byte) count ∙ ap (Command.Fill second.volume second.at second.count) byte ∙ sym second.is

one_idle : (ws : List (List ℕ)) (c d : Command) → AsksIdle ws c → AsksIdle ws d → c ≡ d
one_idle ws c d first second =
    let steps = decimal_injective first.steps second.steps first.fits second.fits (ap head_word (sym first.place ∙ second.place)) in
    first.is ∙ ap Command.Idle steps ∙ sym second.is

one_behind : (h : Head) (ws : List (List ℕ)) (c d : Command) → AsksBehind h ws c → AsksBehind h ws d → c ≡ d
one_behind (OfVerb verb) ws c d first second = one_verb verb ws c d first second
one_behind OfSets ws c d first second = one_set_line ws c d first second
one_behind OfRead ws c d first second = one_read ws c d first second
one_behind OfWrite ws c d first second = one_write ws c d first second
one_behind OfFill ws c d first second = one_fill ws c d first second
one_behind OfIdle ws c d first second = one_idle ws c d first second

one_command : (ws : List (List ℕ)) (c d : Command) → IsCommand ws c → IsCommand ws d → c ≡ d
one_command [] c d first second = absurd first
one_command (w ∷ ws) c d first second = one_behind second.0 ws c d (subst (λ (h : Head). AsksBehind h ws c) (one_head w first.0 second.0 first.1 second.1) first.2) second.2

-- the first byte tells a comment, `tab`, `end` and `boot` from each other and from all else
abbrev mark : List ℕ → ℕ
mark [] = 4
mark (b ∷ bs) = cond (b == 35) 0 (cond (b == 116) 1 (cond (b == 101) 2 (cond (b == 98) 3 4)))

abbrev words_mark : List (List ℕ) → ℕ
words_mark [] = 0
words_mark (w ∷ ws) = mark w

abbrev line_mark : Line → ℕ
line_mark Nothing = 0
line_mark Tab = 1
line_mark End = 2
line_mark Boot = 3
line_mark (Asked c) = 4

head_mark : (h : Head) → mark (head_text h) ≡ 4
head_mark (OfVerb Metadb) = refl
head_mark (OfVerb Metainit) = refl
head_mark (OfVerb Metaclear) = refl
head_mark (OfVerb Metattach) = refl
head_mark (OfVerb Metadetach) = refl
head_mark (OfVerb Metaoffline) = refl
head_mark (OfVerb Metaonline) = refl
head_mark (OfVerb Metareplace) = refl
head_mark (OfVerb Metahs) = refl
head_mark (OfVerb Metastat) = refl
head_mark OfSets = refl
head_mark OfRead = refl
head_mark OfWrite = refl
head_mark OfFill = refl
head_mark OfIdle = refl

comment_mark : (w : List ℕ) → is_comment w ≡ true → mark w ≡ 0
comment_mark [] is = absurd (cc)
comment_mark (b ∷ bs) is = ap (λ (v : Bool). cond v 0 (cond (b == 116) 1 (cond (b == 101) 2 (cond (b == 98) 3 4)))) is

nothing_mark : (ws : List (List ℕ)) → Asks ws Nothing → words_mark ws ≡ 0
nothing_mark [] asks = refl
nothing_mark (w ∷ ws) asks = comment_mark w asks

command_mark : (ws : List (List ℕ)) (c : Command) → IsCommand ws c → words_mark ws ≡ 4
command_mark [] c is = absurd is
command_mark (w ∷ ws) c is = ap mark is.1 ∙ head_mark is.0

mark_of : (ws : List (List ℕ)) (l : Line) → Asks ws l → words_mark ws ≡ line_mark l
mark_of ws Nothing asks = nothing_mark ws asks
mark_of ws Tab asks = ap words_mark asks
mark_of ws End asks = ap words_mark asks
mark_of ws Boot asks = ap words_mark asks
mark_of ws (Asked c) asks = command_mark ws c asks

one_asked : (ws : List (List ℕ)) (a b : Line) → Asks ws a → Asks ws b → a ≡ b
one_asked ws Nothing Nothing first second = refl
one_asked ws Tab Tab first second = refl
one_asked ws End End first second = refl
one_asked ws Boot Boot first second = refl
one_asked ws (Asked c) (Asked d) first second = ap Asked (one_command ws c d first second)
one_asked ws a b first second = let same : line_mark a ≡ line_mark b = sym (mark_of ws a first) ∙ mark_of ws b second in absurd (omega (arith, same))

pub one_line : (line : List ℕ) (a b : Line) → IsLine line a → IsLine line b → a ≡ b
one_line line a b first second = one_asked (words line) a b first.asks second.asks
