use Rattle.std.proofs.Common.{inl}
use Rattle.inspect_call.proofs.inspected.inspect.Goals as goal

pub returns-in-Ok-clause-exact : goal.returns-in-Ok-clause-exact
returns-in-Ok-clause-exact g c = inl (record { second = c.now-second.result; told = c.now-second.ensures.value; looked = c.in-Ok.looked; is = c.in-Ok.ensures.exact; tells = c.tell.ensures.tells })
