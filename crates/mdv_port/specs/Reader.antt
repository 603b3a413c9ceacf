-- What a reader of lines keeps, and what a call of it gives.
use Rattle.std.specs.Prelude.{◌≡◌, ◌⊎◌, ◌≤◌, ◌+◌, ◌-◌, ℕ, List, [], ◌++◌, drop, Option, Some, Result, Ok, Err, IfOk}
use Rattle.std.specs.Option.{option_map}
use Rattle.mdv_base.specs.declared.drive.Failed.{Failed}
use Rattle.mdv_port.specs.declared.reader.LineEnd.{LineEnd}
use Rattle.mdv_port.specs.declared.reader.LineEnd.TheVariants.{Line, TooLong, End, Spent}
use Rattle.mdv_port.specs.Lines.{lines_limit, bytes_limit, Taken, nothing, no_more, passed, whole, next_line, line_size}

-- the bytes that were taken from the source and not handed out, how many lines and bytes were handed out, and the line of the last call
pub record Reader : Type 0 where
  pub unread : List ℕ
  pub lines : ℕ
  pub bytes : ℕ
  pub line : List ℕ

-- the whole input that is still to come, where the source tells its part
abbrev pub to_come : List ℕ → Option (List ℕ) → Option (List ℕ)
to_come unread left = option_map (λ rest. unread ++ rest) left

-- how many lines an answer hands out: a line that is passed over counts
abbrev pub lines_given : Result LineEnd Failed → ℕ
lines_given (Ok Line) = 1
lines_given (Ok TooLong) = 1
lines_given (Ok End) = 0
lines_given (Ok (Spent lines bytes)) = 0
lines_given (Err e) = 0

-- after one line of this input, this much is to come
pub record OneOn (old new : Reader) (input rest : List ℕ) (left : Option (List ℕ)) : Type 0 where
  pub comes : to_come new.unread left ≡ Some rest
  pub bytes : new.bytes ≡ old.bytes + line_size input

-- the reader stands at a limit: the bytes up to it were taken
pub record AtLimit (old new : Reader) (limit : ℕ) (input : List ℕ) (left : Option (List ℕ)) : Type 0 where
  pub comes : to_come new.unread left ≡ Some (drop (limit - old.bytes) input)
  pub bytes : new.bytes ≡ limit

-- the answer to what comes first in the input, and where reader and source then stand
abbrev pub IsAnswer : Taken → LineEnd → Reader → Reader → List ℕ → Option (List ℕ) → Type 0
IsAnswer nothing end old new input left = (end ≡ End) × (to_come new.unread left ≡ Some [])
IsAnswer (no_more lines bytes) end old new input left = (end ≡ Spent lines bytes) × AtLimit old new bytes input left
IsAnswer (passed rest) end old new input left = (end ≡ TooLong) × OneOn old new input rest left
IsAnswer (whole line rest) end old new input left = (end ≡ Line) × (new.line ≡ line) × OneOn old new input rest left

-- each Ok answers what comes first in the input, where the source tells it
abbrev pub IsTold : Reader → Reader → Option (List ℕ) → Option (List ℕ) → Result LineEnd Failed → Type 0
IsTold old new left left' result =
    (input : List ℕ) → to_come old.unread left ≡ Some input → IfOk result (λ end. IsAnswer (next_line old.lines old.bytes input) end old new input left')

-- after an answer that is no line there is none to show
abbrev pub ShowsLine : Result LineEnd Failed → List ℕ → Type 0
ShowsLine (Ok Line) line = Unit {0}
ShowsLine (Ok TooLong) line = line ≡ []
ShowsLine (Ok End) line = line ≡ []
ShowsLine (Ok (Spent lines bytes)) line = line ≡ []
ShowsLine (Err e) line = line ≡ []

-- a reader is spent only at a limit
abbrev pub SpentAtLimit : Result LineEnd Failed → Reader → Type 0
SpentAtLimit (Ok Line) new = Unit {0}
SpentAtLimit (Ok TooLong) new = Unit {0}
SpentAtLimit (Ok End) new = Unit {0}
SpentAtLimit (Ok (Spent lines bytes)) new = (new.lines ≡ lines) × (new.bytes ≡ bytes) × ((lines ≡ lines_limit) ⊎ (bytes ≡ bytes_limit))
SpentAtLimit (Err e) new = Unit {0}

-- what holds of each call, whatever the source tells
pub record Counts (old new : Reader) (result : Result LineEnd Failed) : Type 0 where
  pub lines : new.lines ≡ old.lines + lines_given result
  pub line_limit : new.lines ≤ lines_limit
  pub bytes : old.bytes ≤ new.bytes
  pub byte_limit : new.bytes ≤ bytes_limit
