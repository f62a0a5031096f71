use Rattle.st_protocol.proofs.QuestionLaws.{one_body, one_heard, more_heard}
use Rattle.st_protocol.proofs.CourseLaws.{Follows, course_follows}
use Rattle.st_protocol.proofs.answers.answers_of_longer_lists.Goals as goal

pub returns-clause-body : goal.returns-clause-body
returns-clause-body c = one_body

pub returns-clause-heard : goal.returns-clause-heard
returns-clause-heard c = one_heard

pub returns-clause-more : goal.returns-clause-more
returns-clause-more c = more_heard

pub returns-clause-course : goal.returns-clause-course
unfolding Follows
returns-clause-course c = course_follows
