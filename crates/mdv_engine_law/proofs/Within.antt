-- What is kept outside the places of replicas is kept outside the slices where a boot looks for them.
use Rattle.std.proofs.Common.{◌≡◌, ◌+◌, ◌-◌, ◌*◌, ◌≤◌, ℕ, Bool, true, false, List, [], ◌∷◌, Option, Some, Contains, refl, sym, ◌∙◌, ap, subst, arith}
use Rattle.std.specs.List.{list_any}
use Rattle.std.proofs.lemmas.List.Folds.{list_any_at}
use Rattle.mdv_store.proofs.Seating.{or_yes}
use Rattle.mdv_store.proofs.Sitting.{contains_behind, contains_first}
use Rattle.mdv_engine_law.specs.Below.{Geometry, IsOpenedAt, KeptOutside, Opened, Site, SliceLine, Tale, last, range, seats_area, site_area, site_of}
use Rattle.mdv_store.specs.Seats.{replica_area, replicas_of}
use Rattle.mdv_survey.specs.Replica.{at_of}
use Rattle.mdv_survey.specs.declared.replica.Replica.{Replica}
use Rattle.mdv_engine_law.specs.Hosts.{opened_area, places_area}
use Rattle.mdv_shelf.proofs.Everywhere.{last_image}
use Rattle.mdv_shelf.proofs.Frame.{kept_outside_wider, within_range}

pub none_in : (rs : List Replica) (drive block : ℕ) → ((r : Replica) → Contains rs r → replica_area r drive block ≡ false) → list_any (λ (r : Replica). replica_area r drive block) rs ≡ false
none_in [] drive block out = refl
none_in (r ∷ rs) drive block out = or_yes (replica_area r drive block) (list_any (λ (x : Replica). replica_area x drive block) rs) (out r (contains_first r rs)) (none_in rs drive block (λ x has. out x (contains_behind r x rs has)))

-- a block outside the slices is outside each of them
pub out_of_line : (site : Site) (drive block : ℕ) (line : SliceLine) → Contains site.lines line → site_area site drive block ≡ false → range line.at.drive.0 (line.at.start + 16) (line.at.blocks - 16) drive block ≡ false
out_of_line site drive block line has out = by (in_line line) refl where
  in_line : SliceLine → Bool
  in_line l = range l.at.drive.0 (l.at.start + 16) (l.at.blocks - 16) drive block

  by : (b : Bool) → in_line line ≡ b → in_line line ≡ false
  by false is = is
  by true is = absurd (let any : list_any in_line site.lines ≡ true = list_any_at in_line site.lines has.0 line has.1 (ap in_line has.2 ∙ is) in cc (out, any))

-- and outside the active places of an open database
pub outside_seats : (g : Geometry) (o : Opened) (t : Tale) → IsOpenedAt g o t → (drive block : ℕ) → site_area (site_of g o.key) drive block ≡ false → seats_area o.seats drive block ≡ false
outside_seats g o t is drive block out = none_in (replicas_of o.seats) drive block (λ r has.
    let found = (is.held.each r has (last t) (last_image t)).found in
    let within = found.within in
    within_range r.line.at.drive.0 (at_of r).first r.first.blocks (r.line.at.start + 16) (r.line.at.blocks - 16) drive block (omega arith) (omega (arith, within)) (out_of_line (site_of g o.key) drive block r.line found.one_of out))

-- and outside the places of a creation on some of the slices
module _ (site : Site) (lines : List SliceLine) (count blocks : ℕ) (sites : (line : SliceLine) → Contains lines line → Contains site.lines line) (within : (line : SliceLine) → Contains lines line → 16 + count * blocks ≤ line.at.blocks) (drive block : ℕ) where
  out_of_all : (ls : List SliceLine) → ((line : SliceLine) → Contains ls line → Contains lines line) → site_area site drive block ≡ false → places_area ls count blocks drive block ≡ false
  out_of_all [] some out = refl
  out_of_all (line ∷ ls) some out =
      let has = some line (contains_first line ls) in
      let room = within line has in
      or_yes (range line.at.drive.0 (line.at.start + 16) (count * blocks) drive block) (places_area ls count blocks drive block)
      (within_range line.at.drive.0 (line.at.start + 16) (count * blocks) (line.at.start + 16) (line.at.blocks - 16) drive block (omega arith) (omega (arith, room)) (out_of_line site drive block line (sites line has) out))
      (out_of_all ls (λ other there. some other (contains_behind line other ls there)) out)

  pub outside_places : site_area site drive block ≡ false → places_area lines count blocks drive block ≡ false
  outside_places out = out_of_all lines (λ line has. has) out

module _ (t m : Tale) where
  pub places_on_site : (site : Site) (lines : List SliceLine) (count blocks : ℕ) → ((line : SliceLine) → Contains lines line → Contains site.lines line) → ((line : SliceLine) → Contains lines line → 16 + count * blocks ≤ line.at.blocks)
      → KeptOutside (places_area lines count blocks) t m → KeptOutside (site_area site) t m
  places_on_site site lines count blocks sites within kept = kept_outside_wider (places_area lines count blocks) (site_area site) t m (outside_places site lines count blocks sites within) kept

  pub seats_on_site : (g : Geometry) (o : Opened) → IsOpenedAt g o t → KeptOutside (seats_area o.seats) t m → KeptOutside (site_area (site_of g o.key)) t m
  seats_on_site g o is kept = kept_outside_wider (seats_area o.seats) (site_area (site_of g o.key)) t m (outside_seats g o t is) kept

  -- the places that are open
  pub opened_kept : (opened : Option Opened) (o : Opened) → opened ≡ Some o → KeptOutside (seats_area o.seats) t m → KeptOutside (opened_area opened) t m
  opened_kept opened o is kept = subst (λ (x : Option Opened). KeptOutside (opened_area x) t m) (sym is) kept
