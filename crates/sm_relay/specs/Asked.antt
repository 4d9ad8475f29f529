-- What all tries at a fragment gave.
use Rattle.std.specs.Prelude.{ℕ, List}
use Rattle.sm_model.specs.declared.address.Address.{Address}
use Rattle.sm_fetch.specs.declared.dial.Exchange.{Exchange}
use Rattle.sm_fetch.specs.declared.got.Got.TheVariants as got
use Rattle.sm_client.specs.Stands.{miss_of}
use Rattle.sm_pull.specs.declared.plan.PullPlan.{PullPlan}
use Rattle.sm_pull.specs.Asks.{AsksFragment, Gives, GivesNone, Tries}
use Rattle.sm_relay.specs.declared.ask.Asked.{Asked}
use Rattle.sm_relay.specs.declared.ask.Asked.TheVariants as asked

abbrev pub ReadsFragment : PullPlan → List ℕ → Address → List Exchange → Asked → Type 0
ReadsFragment plan url address made (asked.Took raw) = Gives (AsksFragment plan.place url address) miss_of plan.tries made (got.Fragment raw)
ReadsFragment plan url address made (asked.GaveUp outcomes) = GivesNone (AsksFragment plan.place url address) miss_of plan.tries made outcomes
ReadsFragment plan url address made asked.NoMemory = Tries (AsksFragment plan.place url address) plan.tries made
