-- The text of a plan as an md.tab.
use Rattle.std.specs.Prelude.{ℕ, ◌==◌, Option, None, Some, List, [], ◌∷◌, ◌++◌}
use Rattle.std.specs.List.{find, flat_map}
use Rattle.mdv_print.specs.Below.{Key, Named, OnePool, OneVolume, Part, Plan, VolId}
use Rattle.mdv_base.specs.declared.name.Key.TheVariants.{Local, Set}
use Rattle.mdv_base.specs.declared.name.Named.TheVariants.{Volume, Pool}
use Rattle.mdv_print.specs.Order.{with_below, uppermost}
use Rattle.mdv_print.specs.Parts.{kind_parts, pool_parts}
use Rattle.mdv_print.specs.Words.{line_of}

-- the set with which volumes and pools are named
abbrev pub set_of : Key → Option (List ℕ)
set_of (Local host) = None
set_of (Set name) = Some name

abbrev pub volume_line : Option (List ℕ) → OneVolume → List ℕ
volume_line set v = line_of set (Part.Volume v.number) (kind_parts v.kind)

abbrev pub pool_line : Option (List ℕ) → OnePool → List ℕ
pool_line set q = line_of set (Part.Pool q.number) (pool_parts q)

-- these volumes, each with all below it
abbrev pub volumes_text : Option (List ℕ) → Plan → List VolId → List ℕ
volumes_text set p vs = flat_map (volume_line set) (with_below p vs)

-- all volumes, and then all pools in ascending order
abbrev pub tab_text : Option (List ℕ) → Plan → List ℕ
tab_text set p = volumes_text set p (uppermost p) ++ flat_map (pool_line set) p.pools

abbrev pub found_line : Option (List ℕ) → Option OnePool → List ℕ
found_line set None = []
found_line set (Some q) = pool_line set q

-- a volume with all below it, or a pool
abbrev pub named_text : Option (List ℕ) → Plan → Named → List ℕ
named_text set p (Volume v) = volumes_text set p (v ∷ [])
named_text set p (Pool q) = found_line set (find (λ x. x.number.0 == q.0) p.pools)

-- each of the names
abbrev pub names_text : Option (List ℕ) → Plan → List Named → List ℕ
names_text set p names = flat_map (named_text set p) names
