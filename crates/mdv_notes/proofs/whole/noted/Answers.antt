use Rattle.mdv_notes.proofs.whole.noted.Goals as goal

pub returns-in-Part : goal.returns-in-Part
returns-in-Part c = rw c.in-Part.is c.note_component.ensures

pub returns-in-SubOffline : goal.returns-in-SubOffline
returns-in-SubOffline c = rw c.in-SubOffline.is c.switch.ensures

pub returns-in-SubOnline : goal.returns-in-SubOnline
returns-in-SubOnline c = rw c.in-SubOnline.is c.bring_back.ensures
