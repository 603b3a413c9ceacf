use Rattle.std.proofs.Common.{◌+◌, ◌/◌, ℕ, ap, refl, sym}
use Rattle.mdv_survey.specs.Choice.{ShowOne}
use Rattle.mdv_survey.proofs.Identities.{its_item, the_one}
use Rattle.mdv_survey.proofs.choosing.choose_among.Goals as goal

pub returns-in-Some-failing : goal.returns-in-Some-failing
returns-in-Some-failing c =
    let one : ShowOne c.args.replicas.now = c.two_identities.ensures.none c.in_default.is in
    record {
      replica = c.requires.replica;
      the = the_one c.args.replicas.now c.args.newest.now c.requires one;
      list = c.in-Some-failing.list.now;
      fails = sym (rw (its_item c.args.replicas.now c.args.newest.now c.requires) at c.in-Some-failing.ensures);
      readable_is = rw (its_item c.args.replicas.now c.args.newest.now c.requires) at c.readable_in.ensures;
      needed_is = ap (λ (n : ℕ). n / 2 + 1) c.listed_in.ensures;
    }

pub returns-in-None : goal.returns-in-None
returns-in-None c =
    let one : ShowOne c.args.replicas.now = c.two_identities.ensures.none c.in_default.is in
    record {
      replica = c.requires.replica;
      the = the_one c.args.replicas.now c.args.newest.now c.requires one;
      number_is = refl;
      enough = sym (rw (its_item c.args.replicas.now c.args.newest.now c.requires) at c.in-None.ensures);
    }
