use Rattle.mdv_shown.specs.Laws.{Reads}
use Rattle.mdv_standing.proofs.Adding.{first_added, first_adding, later_added, later_adding}
use Rattle.mdv_standing.proofs.Clearing.{first_going, world_rests}
use Rattle.mdv_standing.proofs.Deleting.{ending_wiped, ending_wiping}
use Rattle.mdv_standing.proofs.Ended.{gone_loose}
use Rattle.mdv_standing.proofs.Lawful.{is_there}
use Rattle.mdv_standing.proofs.Naming.{bare_named, unlisted_named}
use Rattle.mdv_standing.proofs.Noting.{place_noted, world_clearing, world_gone, world_placing}
use Rattle.mdv_standing.proofs.Unlisting.{unlisted_wiped, unlisted_wiping}
use Rattle.mdv_standing.proofs.law.places_go.Goals as goal

pub returns : goal.returns
returns c = record {
  names = record {
    bare = λ site v line ok lines lie looks. bare_named site ok lines v lie line looks;
    unlisted = λ site v image line k first ok lines lie has. unlisted_named site ok lines v lie line has.one_of image k first has;
  };
  notes = record {
    placing = λ read site identity log w image places world. world_placing (Reads read) site identity log w image world places;
    noted = λ read site identity log w image places line blocks count k ok lines world. place_noted (Reads read) site identity log w image world places line blocks count k ok lines;
    clearing = λ read site identity log w image world. world_clearing (Reads read) site identity log w image world;
    gone = λ read site identity log w image firm ends world. world_gone (Reads read) site identity log w image world firm;
  };
  unlisted = record {
    clearing = λ read site identity log w old new v took line blocks count before i looks within bare. first_going read site identity log w old new v took line blocks count i looks within bare before;
    resting = λ read site identity log w old new line blocks count k ok looks. world_rests read site identity log w old new line blocks count k ok looks;
    wiping = λ read site identity log w old new v took line k first. unlisted_wiping (Reads read) site identity log w old new v took line k first;
    wiped = λ read site identity log w old new v took line k first. unlisted_wiped (Reads read) site identity log w old new v took line k first;
  };
  adding = record {
    first_formatting = λ read site identity log w old new v took line blocks count olds news before. first_adding (Reads read) site identity log w old new v took line blocks count olds news before;
    first_formatted = λ read site identity log w old new v took line blocks count olds news before. first_added (Reads read) site identity log w old new v took line blocks count olds news before;
    later_formatting = λ read site identity log w old new v took line k first olds news. later_adding (Reads read) site identity log w old new v took line k first olds news;
    later_formatted = λ read site identity log w old new v took line k first olds news. later_added (Reads read) site identity log w old new v took line k first olds news;
  };
  ending = record {
    wiping = λ read site identity log w old new v took line first. ending_wiping (Reads read) site identity log w old new v took line first;
    wiped = λ read site identity log w old new v took line first. ending_wiped (Reads read) site identity log w old new v took line first;
    left = λ read site identity log w image v older line world over newest written rising. gone_loose (Reads read) site identity log w image world over v older newest written rising line;
    none = λ read g site identity log w image seen s slot v site_is is_log world gone r c has most fair small.
        (let live = is_there (Reads read) g site identity log w image seen s slot v site_is is_log world r c has most fair small in let is = gone.1 in cc (live, is));
  };
}
