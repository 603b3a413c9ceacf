-- Words that begin with an address.
use Rattle.std.proofs.Common.{◌≡◌, ℕ, sym, ◌∙◌, ap, subst, List, [], ◌∷◌, decimal, arith}
use Rattle.std.proofs.lemmas.Fmt.{decimal_injective}
use Rattle.mdv_name.proofs.Volumes.{one_volume}
use Rattle.mdv_name.specs.declared.volume.VolName.{VolName}
use Rattle.mdv_command.specs.declared.command.Command.{Command}
use Rattle.mdv_text.specs.Hex.{SpellsBlock}
use Rattle.mdv_grammar.specs.Line.{IsAddress, BeginsWithAddress, IsCount, IsByte, AsksRead, AsksWrite, AsksFill}

abbrev pub head_word : List (List ℕ) → List ℕ
head_word [] = []
head_word (w ∷ ws) = w

abbrev pub tail_words : List (List ℕ) → List (List ℕ)
tail_words [] = []
tail_words (w ∷ ws) = ws

move : (name other block place : List ℕ) (v : VolName) (at : ℕ) → name ≡ other → block ≡ place → IsAddress name block v at → IsAddress other place v at
move name other block place v at first second is = subst (λ (l : List ℕ). IsAddress l place v at) first (subst (λ (l : List ℕ). IsAddress name l v at) second is)

pub no_address :
    (ws r t : List (List ℕ)) (name block : List ℕ) → ws ≡ name ∷ r → r ≡ block ∷ t → ((v : VolName) (at : ℕ) → IsAddress name block v at → ⊥) → (v : VolName) (at : ℕ) (rest : List (List ℕ)) → BeginsWithAddress ws v at rest → ⊥
no_address ws r t name block first second none v at rest begins =
    let whole : begins.name ∷ begins.block ∷ rest ≡ name ∷ block ∷ t = sym begins.place ∙ first ∙ ap (λ (l : List (List ℕ)). name ∷ l) second in
    none v at (move begins.name name begins.block block v at (ap head_word whole) (ap (λ (l : List (List ℕ)). head_word (tail_words l)) whole) begins.address)

pub one_address :
    (ws r t : List (List ℕ)) (v u : VolName) (m n : ℕ) → BeginsWithAddress ws v m r → BeginsWithAddress ws u n t → (v ≡ u) × (m ≡ n) × (r ≡ t)
one_address ws r t v u m n first second =
    let whole : first.name ∷ first.block ∷ r ≡ second.name ∷ second.block ∷ t = sym first.place ∙ second.place in
    let here = move first.name second.name first.block second.block v m (ap head_word whole) (ap (λ (l : List (List ℕ)). head_word (tail_words l)) whole) first.address in (
      one_volume v u second.name here.form second.address.form here.spelled second.address.spelled,
      decimal_injective m n here.fits second.address.fits (sym here.number ∙ second.address.number),
      ap (λ (l : List (List ℕ)). tail_words (tail_words l)) whole,
    )

pub no_read_word : (ws rest : List (List ℕ)) (v : VolName) (at : ℕ) → BeginsWithAddress ws v at rest → ((w : List ℕ) → rest ≡ w ∷ [] → ⊥) → (c : Command) → AsksRead ws c → ⊥
no_read_word ws rest v at begins none c asks = none asks.word (one_address ws rest (asks.word ∷ []) v asks.volume at asks.at begins asks.address).2

pub no_read_count :
    (ws rest : List (List ℕ)) (v : VolName) (at : ℕ) (w : List ℕ) → BeginsWithAddress ws v at rest → rest ≡ w ∷ [] → ((n : ℕ) → IsCount w n → ⊥) → (c : Command) → AsksRead ws c → ⊥
no_read_count ws rest v at w begins only none c asks =
    let same = (one_address ws rest (asks.word ∷ []) v asks.volume at asks.at begins asks.address).2 in
    none asks.count (subst (λ (l : List ℕ). IsCount l asks.count) (ap head_word (sym same ∙ only)) asks.counted)

pub no_write_word : (ws rest : List (List ℕ)) (v : VolName) (at : ℕ) → BeginsWithAddress ws v at rest → ((w : List ℕ) → rest ≡ w ∷ [] → ⊥) → (c : Command) → AsksWrite ws c → ⊥
no_write_word ws rest v at begins none c asks = none asks.hex (one_address ws rest (asks.hex ∷ []) v asks.volume at asks.at begins asks.address).2

pub no_write_block :
    (ws rest : List (List ℕ)) (v : VolName) (at : ℕ) (w : List ℕ) → BeginsWithAddress ws v at rest → rest ≡ w ∷ [] → ((b : List ℕ) → SpellsBlock w b → ⊥) → (c : Command) → AsksWrite ws c → ⊥
no_write_block ws rest v at w begins only none c asks =
    let same = (one_address ws rest (asks.hex ∷ []) v asks.volume at asks.at begins asks.address).2 in
    none asks.block (subst (λ (l : List ℕ). SpellsBlock l asks.block) (ap head_word (sym same ∙ only)) asks.spelled)

-- the two words behind an address to be filled
fill_words : (ws rest : List (List ℕ)) (v : VolName) (at : ℕ) (c : Command) → BeginsWithAddress ws v at rest → (asks : AsksFill ws c) → rest ≡ asks.word ∷ asks.pair ∷ []
fill_words ws rest v at c begins asks = (one_address ws rest (asks.word ∷ asks.pair ∷ []) v asks.volume at asks.at begins asks.address).2

pub no_fill_words : (ws rest : List (List ℕ)) (v : VolName) (at : ℕ) → BeginsWithAddress ws v at rest → rest ≡ [] → (c : Command) → AsksFill ws c → ⊥
no_fill_words ws rest v at begins none c asks = let never : [] ≡ asks.word ∷ asks.pair ∷ [] = sym none ∙ fill_words ws rest v at c begins asks in cc

pub no_fill_count :
    (ws rest behind : List (List ℕ)) (v : VolName) (at : ℕ) (w : List ℕ) → BeginsWithAddress ws v at rest → rest ≡ w ∷ behind → ((n : ℕ) → IsCount w n → ⊥) → (c : Command) → AsksFill ws c → ⊥
no_fill_count ws rest behind v at w begins first none c asks =
    let same = sym (fill_words ws rest v at c begins asks) ∙ first in
    none asks.count (subst (λ (l : List ℕ). IsCount l asks.count) (ap head_word same) asks.counted)

pub no_fill_pair : (ws rest behind : List (List ℕ)) (v : VolName) (at : ℕ) (w : List ℕ) → BeginsWithAddress ws v at rest → rest ≡ w ∷ behind → ((p : List ℕ) → behind ≡ p ∷ [] → ⊥) → (c : Command) → AsksFill ws c → ⊥
no_fill_pair ws rest behind v at w begins first none c asks = none asks.pair (ap tail_words (sym first ∙ fill_words ws rest v at c begins asks))

pub no_fill_byte :
    (ws rest behind : List (List ℕ)) (v : VolName) (at : ℕ) (w p : List ℕ) → BeginsWithAddress ws v at rest → rest ≡ w ∷ behind → behind ≡ p ∷ [] → ((n : ℕ) → IsByte p n → ⊥) → (c : Command) → AsksFill ws c → ⊥
no_fill_byte ws rest behind v at w p begins first second none c asks =
    let same = sym (ap tail_words (sym first ∙ fill_words ws rest v at c begins asks)) ∙ second in
    none asks.byte (subst (λ (l : List ℕ). IsByte l asks.byte) (ap head_word same) asks.filled)

pub no_count : (word : List ℕ) (m : ℕ) → m ≡ 0 → word ≡ decimal m → (n : ℕ) → IsCount word n → ⊥
no_count word m zero is n counted =
    let same = decimal_injective m n (omega (arith, zero)) counted.fits (sym is ∙ counted.number) in
    omega (arith, counted.some, same, zero)
