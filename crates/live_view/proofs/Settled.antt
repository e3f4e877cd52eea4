-- A view that asks until it knows what was published.
use Rattle.std.proofs.Common.{◌≡◌, ◌<◌, List, [], length, refl, sym, ◌∙◌, subst}
use mathlib.Core.List.{IsPrefix}
use Rattle.packet_key.specs.declared.key.FlowKey.{FlowKey}
use Rattle.hash_rows.specs.declared.answer.Answer.{Answer}
use Rattle.hash_rows.specs.declared.shape.Push.{Push}
use Rattle.hash_rows.specs.Rules.{Rules}
use Rattle.live_state.specs.declared.layout.Layout.{Layout}
use Rattle.live_state.specs.Copies.{HasRoomFor, IsCopyOf, KeepsRest}
use Rattle.live_state.specs.Fold.{Fit, state_after, most}
use Rattle.live_view.specs.Views.{ReaderView}
use Rattle.push_history.proofs.Prefixes.{prefix_trans}
use Rattle.live_view.proofs.Folds.{known_whole}

-- what holds after each ask, of the view before, what was published and the answer before
pub record Settling (r : Rules) (before : ReaderView) (published : List Push) (keys : List FlowKey) (start : Answer) (v : ReaderView) (into : Answer) : Type 0 where
  pub book : v.book ≡ before.book
  pub layout : v.layout ≡ before.layout
  pub room : HasRoomFor before.layout.workers keys into
  pub rest : KeepsRest start into
  pub known : IsPrefix before.known v.known
  pub whole : IsPrefix published v.known
  pub none : v.told ≡ []
  pub fit : Fit r before.layout v.known
  pub one : IsCopyOf r (state_after r before.layout v.known) keys into

pub rest_same : (a : Answer) → KeepsRest a a
rest_same a = record { reader = refl; number = refl; front_room = refl; upto_room = refl; shown_room = refl }

rest_trans : (a b c : Answer) → KeepsRest a b → KeepsRest b c → KeepsRest a c
rest_trans a b c h k = record {
  reader = k.reader ∙ h.reader;
  number = k.number ∙ h.number;
  front_room = k.front_room ∙ h.front_room;
  upto_room = k.upto_room ∙ h.upto_room;
  shown_room = k.shown_room ∙ h.shown_room;
}

module _ (r : Rules) (before : ReaderView) (published : List Push) (keys : List FlowKey) (start : Answer) where
  pub asked_once : (v w : ReaderView) (a b : Answer) → v.book ≡ before.book → v.layout ≡ before.layout → IsPrefix before.known v.known → KeepsRest start a
      → (w.book ≡ v.book) × (w.layout ≡ v.layout) → HasRoomFor v.layout.workers keys b → KeepsRest a b → w.told ≡ [] → IsPrefix v.known w.known
      → Fit r w.layout w.known → IsCopyOf r (state_after r w.layout w.known) keys b → IsPrefix published w.known → Settling r before published keys start w b
  asked_once v w a b book layout known rest pair room more none longer fit one whole =
      let same : w.layout ≡ before.layout = pair.1 ∙ layout in
      record {
        book = pair.0 ∙ book;
        layout = same;
        room = subst (λ (l : Layout). HasRoomFor l.workers keys b) layout room;
        rest = rest_trans start a b rest more;
        known = prefix_trans before.known v.known w.known known longer;
        whole = whole;
        none = none;
        fit = subst (λ l. Fit r l w.known) same fit;
        one = subst (λ l. IsCopyOf r (state_after r l w.known) keys b) same one;
      }

  pub settled : (v : ReaderView) (a : Answer) → Settling r before published keys start v a → a.folded ≡ length published → length published < most → v.known ≡ published
  settled v a h found short = known_whole r before.layout published v.known h.fit h.whole (sym h.one.folded ∙ found) short
