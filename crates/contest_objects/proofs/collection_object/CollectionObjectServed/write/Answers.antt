use Rattle.contest_objects.proofs.collection_object.CollectionObjectServed.write.Goals as goal

pub returns-in-Judgement : goal.returns-in-Judgement
returns-in-Judgement c = rw c.in-Judgement.is c.write-in-Judgement.ensures
