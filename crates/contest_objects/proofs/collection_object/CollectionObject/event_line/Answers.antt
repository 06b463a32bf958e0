use Rattle.contest_objects.proofs.collection_object.CollectionObject.event_line.Goals as goal

pub returns-in-Judgement : goal.returns-in-Judgement
returns-in-Judgement c = rw c.in-Judgement.is (rw (c.as_str-in-Judgement.ensures.value, c.judgement_id-id.ensures, c.in-Judgement.is) at c.line_with-in-Judgement.ensures)

pub returns-in-Clarification : goal.returns-in-Clarification
returns-in-Clarification c = rw c.in-Clarification.is (rw (c.as_str-in-Clarification.ensures.value, c.clarification_id-id.ensures, c.in-Clarification.is) at c.line_with-in-Clarification.ensures)
