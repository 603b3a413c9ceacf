-- The bases of what is printed of a volume, and the volumes among them.
use Rattle.std.proofs.Common.{◌≡◌, ◌++◌, ℕ, Bool, refl, sym, ◌∙◌, ap, List, [], ◌∷◌, map, append_assoc}
use Rattle.std.specs.List.{All, flat_map}
use Rattle.std.proofs.lemmas.List.Elements.{All-append, All-cons, All-head, All-nil, All-tail}
use Rattle.mdv_components.specs.Stripes.{all_bases}
use Rattle.mdv_plan.specs.Named.{base_below, component_below, row_below}
use Rattle.mdv_print.specs.Entries.{base_named, component_named, extent_entry, is_serial, read_from, row_entry}
use Rattle.mdv_remake.specs.Asked.{base_of, read_of, row_of, run_of, write_of}
use Rattle.mdv_remake.specs.Below.{Base, Slice, Volume, ReadOption, InTurn, Geometric, First, Row, Run, VolId, WriteOption, Parallel, Serial}
use Rattle.mdv_plan.specs.declared.volume.Component.{Component}
use Rattle.mdv_remake.proofs.Mirrors.{VolumeIn}
use Rattle.mdv_remake.proofs.Parts.{BaseIn}

pub base_back : (b : Base) → base_of (base_named b) ≡ b
base_back (Slice s) = refl
base_back (Volume v) = refl

pub read_back : (r : ReadOption) → read_of (read_from r) ≡ r
read_back InTurn = refl
read_back Geometric = refl
read_back First = refl

pub write_back : (w : WriteOption) → write_of (is_serial w) ≡ w
write_back Parallel = refl
write_back Serial = refl

pub runs_back : (runs : List Run) → map run_of (map extent_entry runs) ≡ runs
runs_back [] = refl
runs_back (r ∷ runs) = ap (λ (l : List Run). r ∷ l) (runs_back runs)

-- the bases of components
abbrev pub part_bases : List Component → List Base
part_bases cs = map base_of (map component_named cs)

pub parts_below : (cs : List Component) → flat_map base_below (part_bases cs) ≡ flat_map component_below cs
parts_below [] = refl
parts_below (c ∷ cs) = λ i. base_below (base_back c.on i) ++ parts_below cs i

flat-append : {X Y : Type 0} (h : X → List Y) (xs ys : List X) → flat_map h (xs ++ ys) ≡ flat_map h xs ++ flat_map h ys
flat-append h [] ys = refl
flat-append h (x ∷ xs) ys = ap (λ (l : List _). h x ++ l) (flat-append h xs ys) ∙ sym (append_assoc (h x) (flat_map h xs) (flat_map h ys))

pub rows_below : (rows : List Row) → flat_map base_below (all_bases (map row_of (map row_entry rows))) ≡ flat_map row_below rows
rows_below [] = refl
rows_below (row ∷ rows) =
    flat-append base_below (part_bases row.components) (all_bases (map row_of (map row_entry rows)))
    ∙ (λ i. parts_below row.components i ++ rows_below rows i)

pub all_split : {X : Type 0} (Q : X → Type 0) (xs ys : List X) → All Q (xs ++ ys) → All Q xs × All Q ys
all_split Q [] ys both = (All-nil Q, both)
all_split Q (x ∷ xs) ys both =
    let rest = all_split Q xs ys (All-tail Q x (xs ++ ys) both) in
    (All-cons Q x xs (All-head Q x (xs ++ ys) both) rest.0, rest.1)

one_in : (vs : ℕ → Bool) (b : Base) → All (VolumeIn vs) (base_below b) → BaseIn vs b
one_in vs (Slice s) all = tt
one_in vs (Volume v) all = All-head (VolumeIn vs) v [] all

-- bases whose volumes are there
pub bases_in : (vs : ℕ → Bool) (bs : List Base) → All (VolumeIn vs) (flat_map base_below bs) → All (BaseIn vs) bs
bases_in vs [] all = All-nil (BaseIn vs)
bases_in vs (b ∷ bs) all =
    let parts = all_split (VolumeIn vs) (base_below b) (flat_map base_below bs) all in
    All-cons (BaseIn vs) b bs (one_in vs b parts.0) (bases_in vs bs parts.1)

-- what holds of the volumes of each base
pub below_all : (R : Base → Type 0) (Q : VolId → Type 0) → ((b : Base) → R b → All Q (base_below b)) → (bs : List Base) → All R bs → All Q (flat_map base_below bs)
below_all R Q each [] all = All-nil Q
below_all R Q each (b ∷ bs) all = All-append Q (base_below b) (flat_map base_below bs) (each b (All-head R b bs all)) (below_all R Q each bs (All-tail R b bs all))
