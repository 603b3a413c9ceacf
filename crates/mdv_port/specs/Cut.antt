-- A line that is cut off the front of an input.
use Rattle.std.specs.Prelude.{◌≡◌, ◌<◌, ◌+◌, ℕ, List, ◌++◌, length, take, drop, Option, Some, MatchOption, if◌then◌else◌}
use Rattle.mdv_port.specs.declared.cut.Cut.{Cut}
use Rattle.mdv_port.specs.Lines.{line_limit, first_line, after_line, line_size}

-- how many bytes it took
abbrev pub cut_size : Cut → ℕ
cut_size cut = cut.length + (if cut.newline then 1 else 0)

-- the first line of the input was cut off and its front is kept behind what was kept before, and this is still to come
pub record IsCut (before input : List ℕ) (cut : Cut) (line : List ℕ) (comes : Option (List ℕ)) : Type 0 where
  pub content : cut.length ≡ length (first_line input)
  pub size : cut_size cut ≡ line_size input
  pub kept : line ≡ take line_limit (before ++ first_line input)
  pub rest : comes ≡ Some (after_line input)

-- the first line takes more than the room that there was, which is used up
pub record IsOver (room : ℕ) (input : List ℕ) (comes : Option (List ℕ)) : Type 0 where
  pub over : room < line_size input
  pub rest : comes ≡ Some (drop room input)

-- the first line is cut off where it takes no more than the room
abbrev pub CutsOff : ℕ → List ℕ → List ℕ → Option Cut → List ℕ → Option (List ℕ) → Type 0
CutsOff room before input cut line comes = MatchOption cut (IsOver room input comes) (λ c. IsCut before input c line comes)
