use Rattle.mdv_replica.proofs.Looks.{look_made, master_read, master_only, rest_read, rest_only}
use Rattle.mdv_replica.proofs.looking.looked.Goals as goal

pub returns : goal.returns
returns c = λ content are.
    look_made c.args.at.now c.args.size content c.seen_of.result c.master_in-master.result c.rest_in-rest.result
    (master_read c.args.at.now c.args.size content c.args.blocks.now c.requires.within c.requires.count are c.master_in-master.result c.master_in-master.ensures.value)
    (master_only c.args.at.now c.args.size content c.args.blocks.now c.requires.within c.requires.count are c.master_in-master.result c.master_in-master.ensures.spelled)
    (rest_read c.args.at.now c.args.size content c.args.blocks.now c.requires.within c.requires.count are c.rest_in-rest.result c.rest_in-rest.ensures.value)
    (rest_only c.args.at.now c.args.size content c.args.blocks.now c.requires.within c.requires.count are c.rest_in-rest.result c.rest_in-rest.ensures.spelled)
    c.seen_of.ensures.flags c.seen_of.ensures.place c.seen_of.ensures.head
