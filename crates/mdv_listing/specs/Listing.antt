-- The volumes of a plan as the text of an md.tab.
use Rattle.std.specs.Prelude.{◌≡◌, ℕ, Option, None, Some, List, [], ◌∷◌, All}
use Rattle.std.specs.List.{concat}
use Rattle.mdv_base.specs.declared.name.Named.TheVariants as named
use Rattle.mdv_listing.specs.Below.{IsQuietLine, Named, Plan, Volume, names_text, tab_text, volume_line, volume_of}

-- those of these names, and all where no name is given
abbrev pub listing_of : Plan → List Named → List ℕ
listing_of p [] = tab_text None p
listing_of p (name ∷ names) = names_text None p (name ∷ names)

-- a text of lines none of which ends a reply
pub record IsOfQuietLines (text : List ℕ) : Type 0 where
  pub lines : List (List ℕ)
  pub quiet : All IsQuietLine lines
  pub joined : text ≡ concat lines

-- a volume's line, as `metainit` takes it
abbrev pub line_for : Volume → List ℕ
line_for v = volume_line None v

abbrev pub found_line : Option Volume → List ℕ
found_line None = []
found_line (Some v) = line_for v

-- the line of the volume of that name, where it is there
abbrev pub name_line : Plan → Named → List ℕ
name_line p (named.Volume v) = found_line (volume_of p v)
name_line p (named.Pool q) = []
