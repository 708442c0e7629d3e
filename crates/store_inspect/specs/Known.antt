-- What is known after some items: each word of a walk means what these items say.
use Rattle.std.specs.Prelude.{◌≡◌, List}
use Rattle.tuple_bytes.specs.declared.header.Header.{Header}
use Rattle.tuple_bytes.specs.declared.item.Item.{Item}
use Rattle.history_model.specs.History.{last_moment}
use Rattle.store_inspect.specs.declared.numbers.Numbers.{Numbers}
use Rattle.store_inspect.specs.declared.moments.Moments.{Moments}
use Rattle.store_inspect.specs.declared.granules.Granules.{Granules}
use Rattle.store_inspect.specs.declared.operations.Operations.{Operations}
use Rattle.store_inspect.specs.declared.items.Walk.{Walk}
use Rattle.file_findings.specs.Along.{found_along}
use Rattle.store_inspect.specs.Items.{last_number, number_gap, moment_before, moment_falls, eras_before, idle_policy, odd_frontier, filing_of, beyond, tables_of, misfits, unsayable}

pub record KnowsNumbers (n : Numbers) (before : List Item) : Type 0 where
  pub last : n.last ≡ last_number before
  pub gaps : n.gaps.items ≡ found_along number_gap before

pub record KnowsMoments (m : Moments) (before : List Item) : Type 0 where
  pub last : m.last ≡ moment_before before
  pub greatest : m.greatest ≡ last_moment before
  pub falls : m.falls.items ≡ found_along moment_falls before

pub record KnowsGranules (header : Header) (g : Granules) (before : List Item) : Type 0 where
  pub width : g.width ≡ header.width
  pub eras : g.eras ≡ eras_before header before
  pub idle : g.idle.items ≡ found_along (idle_policy header) before
  pub odd : g.odd.items ≡ found_along (odd_frontier header) before
  pub filed : g.filed.items ≡ found_along (filing_of header) before
  pub beyond_last : g.beyond.items ≡ found_along (beyond header) before

pub record KnowsOperations (o : Operations) (before : List Item) : Type 0 where
  pub tables : o.tables ≡ tables_of before
  pub found : o.misfits.items ≡ found_along misfits before
  pub unsayable_are : o.unsayable.items ≡ found_along unsayable before

pub record KnowsItems (header : Header) (w : Walk) (before : List Item) : Type 0 where
  pub numbers : KnowsNumbers w.numbers before
  pub moments : KnowsMoments w.moments before
  pub granules : KnowsGranules header w.granules before
  pub operations : KnowsOperations w.operations before
