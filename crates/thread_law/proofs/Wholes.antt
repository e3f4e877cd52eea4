-- What is told of each worker and each answer, and how the answers match their fronts.
use Rattle.std.proofs.Common.{◌≡◌, ℕ, Bool, List, length, take, sym, ap, ◌∙◌}
use Rattle.std.specs.Prelude.{All, map}
use Rattle.std.specs.List.{zip}
use Rattle.std.proofs.lemmas.List.{length-map}
use Rattle.packet_key.specs.declared.key.FlowKey.{FlowKey}
use Rattle.hash_rows.specs.declared.answer.Answer.{Answer}
use Rattle.hash_rows.specs.declared.options.Options.{Options}
use Rattle.hash_rows.specs.declared.shape.Packet.{Packet}
use Rattle.hash_rows.specs.declared.shape.Push.{Push}
use Rattle.push_history.specs.Front.{front_of, upto_of, uptos_of}
use Rattle.push_history.specs.Journal.{keys_of, rules_in}
use Rattle.push_history.specs.Shown.{told_cells}
use Rattle.round_law.specs.Outcome.{IsWhole}
use Rattle.push_history.proofs.PlaceLists.{all_grid}
use Rattle.push_history.proofs.MoreMessages.{front_len}
use Rattle.thread_law.specs.Ran.{HasRan, MatchesItsFront}
use Rattle.thread_law.proofs.Told.{uptos_match}

pub ran_whole : (packets : List Packet) (o : Options) (messages : List (List Push)) (folded : List Push) (bits : List (List Bool)) (pushes : List ℕ) (answers : List Answer) (live : List FlowKey) (missed : ℕ)
    → HasRan packets o messages folded bits pushes answers live missed → IsWhole o bits pushes answers
ran_whole packets o messages folded bits pushes answers live missed h = record {
  refused = h.bits_len;
  pushes_len = ap length h.pushes_are ∙ length-map messages (λ (l : List Push). length l) ∙ h.messages_len;
  answers_len = h.answers_are.len;
  fronts = all_grid (λ a. length a.front.items ≡ o.workers) o.readers o.asks answers h.answers_are.len
      (λ q k a low high is. ap length (h.answers_are.each q k a low high is).look.front ∙ front_len o.workers (take a.folded folded));
  shown = all_grid (λ a. length a.shown.items ≡ length (keys_of o)) o.readers o.asks answers h.answers_are.len
      (λ q k a low high is. ap length (h.answers_are.each q k a low high is).look.shown
      ∙ length-map (keys_of o) ((rules_in o).estimate o.shape (told_cells (rules_in o) o.shape (take a.folded folded))));
}

pub ran_matches : (packets : List Packet) (o : Options) (messages : List (List Push)) (folded : List Push) (bits : List (List Bool)) (pushes : List ℕ) (answers : List Answer) (live : List FlowKey) (missed : ℕ)
    → HasRan packets o messages folded bits pushes answers live missed → All (MatchesItsFront messages) answers
ran_matches packets o messages folded bits pushes answers live missed h =
    all_grid (MatchesItsFront messages) o.readers o.asks answers h.answers_are.len
    (λ q k a low high is.
    let look = (h.answers_are.each q k a low high is).look in
    let workers : o.workers ≡ length messages = sym h.messages_len in
    let xs : List Push = take a.folded folded in
    look.upto
    ∙ ap (λ (n : ℕ). uptos_of n xs) workers
    ∙ uptos_match messages folded h.fold a.folded
    ∙ ap (λ (l : List ℕ). map (λ p. upto_of p.0 p.1) (zip messages l)) (ap (λ (n : ℕ). front_of n xs) (sym workers) ∙ sym look.front))
