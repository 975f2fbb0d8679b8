-- What this crate's jobs and answers stand for in the model.
use Rattle.std.specs.Prelude.{List, map}
use Rattle.wiki_model.specs.World as world
use Rattle.wiki_model.specs.Answers as model
use Rattle.region_state.specs.declared.answer.Answer.{Answer}
use Rattle.region_state.specs.AsModel.{answer_of}
use Rattle.region_round.specs.declared.job.Job.{Job}
use Rattle.region_round.specs.declared.job.Job.TheVariants as job

abbrev pub job_of : Job → world.Job
job_of (job.View view) = world.ViewJob view.title view.need view.word
job_of (job.Receipt purge) = world.ReceiptJob purge

abbrev pub jobs_of : List Job → List world.Job
jobs_of jobs = map job_of jobs

abbrev pub answers_of : List Answer → List model.Answer
answers_of answers = map answer_of answers
