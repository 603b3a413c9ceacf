-- Uses that don't overlap, one more at a time.
use Rattle.std.proofs.Common.{◌≡◌, ◌<◌, ℕ, refl, sym, ◌∙◌, subst, List, [], ◌∷◌, ◌++◌, append_assoc, length, get_or, inl, inr, Contains, arith}
use Rattle.std.proofs.lemmas.List.{append-nil, length-map, get_or-map}
use Rattle.std.proofs.lemmas.List.Elements.{All-nil, All-push, All-contains, Contains-get_or, Contains-append_left, Contains-append_right, Contains-append_cases}
use Rattle.std.proofs.lemmas.List.Quantifiers.{all_pairs_push}
use Rattle.std.specs.Prelude.{All, ◌↔◌}
use Rattle.mdv_config.specs.Below.{SliceName, Place, Geometry}
use Rattle.mdv_config.specs.Lists.{AreFree, IsInUse, place_slices}
use Rattle.mdv_config.specs.Slices.{Overlaps}
use Rattle.mdv_config.specs.Table.{IsApart}
use Rattle.mdv_config.proofs.Pairs.{AllPairs-parts}

module _ (g : Geometry) (places : List Place) where
  apart_none : IsApart g places []
  apart_none = record { components = λ i j d below within. absurd (omega arith); replicas = All-nil _ }

  apart_push : (slices : List SliceName) (n : SliceName) → IsApart g places slices → (IsInUse g.slices (place_slices places ++ slices) n → ⊥) → IsApart g places (slices ++ n ∷ [])
  apart_push slices n apart unused = record {
    components = all_pairs_push (λ m o. Overlaps g.slices m o → ⊥) slices n apart.components (λ k d within over. unused (record {
      by = get_or slices k d;
      used = Contains-append_right (place_slices places) slices (get_or slices k d) (Contains-get_or slices k d within);
      overlaps = over;
    }));
    replicas = All-push (λ o. All (λ p. Overlaps g.slices p.slice o → ⊥) places) slices n apart.replicas (λ k d within over. unused (record {
      by = (get_or places k d).slice;
      used = Contains-append_left (place_slices places) slices (get_or places k d).slice (at_place k d within);
      overlaps = over;
    }));
  }
    where
      at_place : (k : ℕ) (d : Place) → k < length places → Contains (place_slices places) (get_or places k d).slice
      at_place k d within = (k, omega (arith, length-map places (λ (p : Place). p.slice)), get_or-map (λ (p : Place). p.slice) places k d (get_or places k d).slice within)

  -- a component that stands behind others overlaps none of them, and no replica
  apart_behind : (slices rest : List SliceName) (n : SliceName) → IsApart g places (slices ++ rest) → Contains rest n → IsInUse g.slices (place_slices places ++ slices) n → ⊥
  apart_behind slices rest n apart has it = elim (Contains-append_cases (place_slices places) slices it.by it.used) [
    | inl at ↦
        let d : Place = record { slice = it.by; start = 0; blocks = 0 } in
        let within : at.0 < length places = omega (arith, at.1, length-map places (λ (p : Place). p.slice)) in
        let is : (get_or places at.0 d).slice ≡ it.by = sym (get_or-map (λ (p : Place). p.slice) places at.0 d it.by within) ∙ at.2 in
        let none = All-contains (λ o. All (λ p. Overlaps g.slices p.slice o → ⊥) places) (slices ++ rest) n apart.replicas (Contains-append_right slices rest n has) in
        none at.0 d within (subst (λ (s : SliceName). Overlaps g.slices s n) (sym is) it.overlaps)
    | inr at ↦ AllPairs-parts (λ m o. Overlaps g.slices m o → ⊥) slices rest it.by n apart.components at has it.overlaps
  ]

  frees : (front rest : List SliceName) → IsApart g places (front ++ rest) → AreFree g.slices (place_slices places ++ front) rest
  frees front [] apart = tt
  frees front (n ∷ rest) apart =
      let moved = subst (IsApart g places) (sym (append_assoc front (n ∷ []) rest)) apart in
      let others = frees (front ++ n ∷ []) rest moved in (
        apart_behind front (n ∷ rest) n apart (0, omega arith, refl),
        subst (λ (us : List SliceName). AreFree g.slices us rest) (sym (append_assoc (place_slices places) front (n ∷ []))) others,
      )

  aparts : (front rest : List SliceName) → IsApart g places front → AreFree g.slices (place_slices places ++ front) rest → IsApart g places (front ++ rest)
  aparts front [] is free = subst (IsApart g places) (sym (append-nil front)) is
  aparts front (n ∷ rest) is free =
      let others = subst (λ (us : List SliceName). AreFree g.slices us rest) (append_assoc (place_slices places) front (n ∷ [])) free.1 in
      subst (IsApart g places) (append_assoc front (n ∷ []) rest) (aparts (front ++ n ∷ []) rest (apart_push front n is free.0) others)

  -- components are apart exactly where each is free of the places and of those in front of it
  pub apart_by_uses : (slices : List SliceName) → AreFree g.slices (place_slices places) slices ↔ IsApart g places slices
  apart_by_uses slices =
      let uses = place_slices places in (
        λ free. aparts [] slices apart_none (subst (λ (us : List SliceName). AreFree g.slices us slices) (sym (append-nil uses)) free),
        λ apart. subst (λ (us : List SliceName). AreFree g.slices us slices) (append-nil uses) (frees [] slices apart),
      )
