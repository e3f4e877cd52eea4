-- Lists whose numbers are in the ranges of their types.
use Rattle.std.specs.Prelude.{◌<◌, ◌^◌, All, length}
use lib.Signed.{mag}
use Rattle.packet_key.specs.KeyText.{IsKey}
use Rattle.hash_rows.specs.declared.answer.Answer.{Answer}
use Rattle.push_history.specs.declared.run_lists.RunLists.{RunLists}

-- the numbers of an answer
pub record IsAnswerInRange (a : Answer) : Type 0 where
  pub reader : a.reader < 2 ^ 64
  pub number : a.number < 2 ^ 64
  pub folded : a.folded < 2 ^ 64
  pub front : All (λ n. n < 2 ^ 64) a.front.items
  pub shown : All (λ x. mag x < 2 ^ 63) a.shown.items

-- the numbers of the lists of a run
pub record AreInRange (lists : RunLists) : Type 0 where
  pub refused : All (λ bits. length bits < 2 ^ 32) lists.refused.items
  pub pushes : All (λ n. n < 2 ^ 64) lists.pushes.items
  pub answers : All IsAnswerInRange lists.answers.items
  pub live : All IsKey lists.live.items
  pub missed : lists.missed < 2 ^ 64
