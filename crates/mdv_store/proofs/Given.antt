-- What a creation, or a change of places, is given, said of the table of drives.
use Rattle.std.proofs.Common.{◌≡◌, inl, inr, ℕ, suc, ◌<◌, ◌≤◌, ◌+◌, ◌^◌, true, false, List, [], ◌∷◌, Contains, refl, sym, subst, arith}
use Rattle.std.specs.Prelude.{AllPairs}
use Rattle.std.proofs.lemmas.Bool.{or_left}
use Rattle.std.proofs.lemmas.List.Elements.{All-contains}
use Rattle.mdv_base.specs.Name.{IsName}
use Rattle.mdv_replica.specs.Forms.{IsMaster, name_of_key}
use Rattle.mdv_shelf.specs.Area.{AreApart}
use Rattle.mdv_shown.specs.Formats.{master_on}
use Rattle.mdv_shown.specs.Site.{line_area, size_on}
use Rattle.mdv_shown.specs.Sites.{is_line_of}
use Rattle.mdv_shown.proofs.Sites.{lines_apart, site_is}
use Rattle.mdv_standing.specs.Blanking.{IsFormatOn}
use Rattle.mdv_store.specs.Below.{Geometry, Identity, Key, IsSound, Site, SliceLine, Spot, is_named, lists_of_spots, site_of, spot_on}
use Rattle.mdv_acts.specs.Asked.{AreAsked}
use Rattle.mdv_store.specs.Create.{MayForm, seats_asked, table_of}
use Rattle.mdv_config.proofs.Pairs.{AllPairs-first, AllPairs-rest}
use Rattle.mdv_votes.specs.Spots.{is_in}
use Rattle.mdv_acts.proofs.Asked.{few_each, start_short, within_line}
use Rattle.mdv_store.proofs.Putting.{IsGiven}
use Rattle.mdv_standing.proofs.Named.{of_filter}
use Rattle.mdv_store.proofs.Spotting.{asked_named, in_asked}

-- whose database it is, in the limits of a master
pub record IsOwner (key : Key) (identity : Identity) : Type 0 where
  pub fresh : identity.fresh < 2 ^ 64
  pub number : identity.number < 2 ^ 32
  pub name : IsName (name_of_key key)

-- slices of a list share no block
abbrev pub ArePairsApart : List SliceLine → Type 0
ArePairsApart [] = Unit {0}
ArePairsApart (line ∷ lines) = ((other : SliceLine) → Contains lines other → AreApart (line_area line) (line_area other)) × ArePairsApart lines

module _ (g : Geometry) (key : Key) (identity : Identity) (lines : List SliceLine) (count blocks : ℕ) (sizes : List ℕ) (owner : IsOwner key identity) (asked : AreAsked sizes lines count blocks)
    (sound : IsSound g) (sites : (line : SliceLine) → Contains lines line → Contains (site_of g key).lines line) (laid_in : (line : SliceLine) → Contains lines line → line.at.start + line.at.blocks ≤ size_on (site_of g key) line) where
  abbrev site : Site
  site = site_of g key

  master_formed : (line : SliceLine) (k : ℕ) → Contains lines line → k < count → IsMaster (master_on site identity line blocks count k)
  master_formed line k has lt =
      let there = of_filter (is_line_of g key) g.slices line (sites line has) in
      let slice = (sound.each line.name line.at there).named in
      let few = few_each asked in
      let most = asked.most in
      record {
        fresh = owner.fresh;
        number = owner.number;
        name = owner.name;
        controller = slice.drive.controller;
        target = slice.drive.target;
        disk = slice.drive.disk;
        slice = (let eight = slice.slice in omega (arith, eight));
        start = start_short k blocks (omega (arith, lt, few)) most;
        blocks = omega (arith, most);
        index = omega (arith, lt, few);
        count = omega (arith, few);
      }

  may_format : (claim : ℕ) → claim < 2 ^ 63 → (line : SliceLine) (k : ℕ) → Contains lines line → k < count → IsFormatOn site identity line blocks count k claim
  may_format claim small line k has lt =
      let fits = within_line line count blocks k (asked.within line has) lt in
      let laid = laid_in line has in
      record {
        site_is = site_is g key sound;
        one_of = sites line has;
        within = fits;
        numbered = inr lt;
        form = master_formed line k has lt;
        lies = record { slice = refl; start = refl; least = asked.least; most = asked.most; in_place = omega arith; within = omega (arith, fits, laid) };
        small = small;
      }

  names : (line : SliceLine) (k : ℕ) → Contains lines line → k < count → is_named (lists_of_spots site (table_of (seats_asked key identity lines count blocks)).plan.lists) (spot_on line blocks k) ≡ true
  names line k has lt =
      let first = (lists_of_spots site (table_of (seats_asked key identity lines count blocks)).plan.lists).first in
      or_left (is_in first (spot_on line blocks k)) false
      (subst (λ (l : List Spot). is_in l (spot_on line blocks k) ≡ true) (sym (asked_named g sound key identity count blocks lines sites)) (in_asked key identity count blocks lines line k has lt))

  pub given_for : (claim : ℕ) → claim < 2 ^ 63 → IsGiven g key identity lines count blocks claim
  given_for claim small = record { sound = sound; least = asked.least; format = may_format claim small; names = names }

  -- no two of the slices share a block
  pub apart_for : (some : List SliceLine) → ((line : SliceLine) → Contains some line → Contains lines line) → AllPairs (λ (a b : SliceLine). a ≡ b → ⊥) some → ArePairsApart some
  apart_for [] within once = tt
  apart_for (line ∷ some) within once = (
    λ other has. elim (lines_apart g sound key key line other (sites line (within line (0, omega arith, refl))) (sites other (within other (suc has.0, omega (arith, has.1), has.2)))) [
      | inl same ↦ absurd (All-contains (λ (b : SliceLine). line ≡ b → ⊥) some other (AllPairs-first (λ (a b : SliceLine). a ≡ b → ⊥) line some once) has same)
      | inr apart ↦ apart
    ],
    apart_for some (λ l has. within l (suc has.0, omega (arith, has.1), has.2)) (AllPairs-rest (λ (a b : SliceLine). a ≡ b → ⊥) line some once),
  )

-- A creation is given that.
module _ (g : Geometry) (key : Key) (identity : Identity) (lines : List SliceLine) (count blocks : ℕ) (sizes : List ℕ) (owner : IsOwner key identity) (asked : AreAsked sizes lines count blocks)
    (may : MayForm g key lines (seats_asked key identity lines count blocks)) where
  pub all_given : IsGiven g key identity lines count blocks 1
  all_given = given_for g key identity lines count blocks sizes owner asked may.sound may.sites may.within 1 (omega arith)

  pub slices_apart : ArePairsApart lines
  slices_apart = apart_for g key identity lines count blocks sizes owner asked may.sound may.sites may.within lines (λ line has. has) asked.once
