use Rattle.std.proofs.Common.{sym, ◌∙◌, ap, subst, ◌≡◌, ◌<◌, ◌+◌, ◌^◌, List, None, Some}
use Rattle.mdv_quorum.specs.Below.{Spot, Version, SpotState, newest_of, greatest_of}
use Rattle.mdv_quorum.proofs.Limits.{claim_fits}
use Rattle.mdv_quorum.proofs.machine.Core.claim.Goals as goal

pub rewritten-requires : goal.rewritten-requires
rewritten-requires c =
    let f = c.as_slice-family.ensures in
    let p = c.as_slice-places.ensures in
    let q = c.as_slice.ensures in
    let r = c.as_slice-in-Reading.ensures in
    let s = c.as_slice-in-Reading-2.ensures in
    let chosen : newest_of c.args.self.now.family c.args.self.now.places None c.in-Reading.read ≡ Some c.in-Some.adopted =
    sym (ap (λ (l : List Version). newest_of l c.args.self.now.places None c.in-Reading.read) f)
    ∙ sym (ap (λ (l : List SpotState). newest_of c.as_slice-family.result.now l None c.in-Reading.read) q)
    ∙ sym (ap (λ (l : List Spot). newest_of c.as_slice-family.result.now c.as_slice.result.now None l) r)
    ∙ sym c.newest_of.ensures ∙ c.in-Some.is in
    let fits = claim_fits c.args.self.now c.args.p c.in-Reading.read c.in-Some.adopted c.in-Reading.is c.requires chosen in
    subst (λ (l : List Version). greatest_of l c.as_slice-places.result.now 0 c.as_slice-in-Reading-2.result.now + 1 < 2 ^ 63) (sym f)
    (subst (λ (l : List SpotState). greatest_of c.args.self.now.family l 0 c.as_slice-in-Reading-2.result.now + 1 < 2 ^ 63) (sym p)
    (subst (λ (l : List Spot). greatest_of c.args.self.now.family c.args.self.now.places 0 l + 1 < 2 ^ 63) (sym s) fits))
