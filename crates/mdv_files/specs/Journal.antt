-- The file that remembers the images on which a write or a sync failed.
use Rattle.std.specs.Prelude.{ℕ, Bool, List, [], ◌∷◌, ◌++◌, ◌==◌, ◌-◌, ◌&&◌, ◌||◌, not, length, get_or, take, cond}
use Rattle.std.specs.List.{list_all}

-- its line of an image: the boot id, a blank, the path and a newline
abbrev pub line_of : List ℕ → List ℕ → List ℕ
line_of boot_id path = boot_id ++ 32 ∷ path ++ 10 ∷ []

-- the last byte is a newline
abbrev pub ends_with_newline : List ℕ → Bool
ends_with_newline text = not (length text == 0) && (get_or text (length text - 1) 0 == 10)

-- the text without one newline at its end
abbrev pub without_newline : List ℕ → List ℕ
without_newline text = cond (ends_with_newline text) (take (length text - 1) text) text

-- neither a blank nor a newline
abbrev pub is_no_blank : ℕ → Bool
is_no_blank b = not (b == 32) && not (b == 10)

-- it has a byte, and no blank or newline
abbrev pub is_word : List ℕ → Bool
is_word text = not (length text == 0) && list_all is_no_blank text

-- each line has its newline
abbrev pub is_whole : List ℕ → Bool
is_whole text = (length text == 0) || ends_with_newline text
