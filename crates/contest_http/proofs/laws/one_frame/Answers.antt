use Rattle.contest_http.proofs.FrameLemmas.{frame_unique, head_front}
use Rattle.contest_http.proofs.laws.one_frame.Goals as goal

pub returns-clause-one : goal.returns-clause-one
returns-clause-one c = frame_unique

pub returns-clause-head : goal.returns-clause-head
returns-clause-head c = head_front
