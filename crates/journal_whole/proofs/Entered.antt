-- What each kind of line adds.
use Rattle.std.proofs.Common.{◌≡◌, ◌≢◌, ◌∙◌, ℕ, ◌+◌, ◌-◌, ◌*◌, ◌^◌, ◌<◌, ◌≤◌, Bool, List, [], ◌∷◌, ◌++◌, refl, sym, ap, ap₂, subst, arith, length, map, ◌/◌, ◌%◌, true, false}
use Rattle.std.specs.Prelude.{All, replicate}
use lib.Signed.{mag}
use Rattle.std.specs.List.{range_with_len}
use Rattle.std.proofs.lemmas.List.{map-append, length-map, length-replicate}
use Rattle.listed.specs.Listed.{Listed}
use Rattle.packet_key.specs.declared.key.FlowKey.{FlowKey}
use Rattle.packet_key.specs.KeyText.{IsKey}
use Rattle.hash_rows.specs.declared.answer.Answer.{Answer}
use Rattle.hash_rows.specs.declared.options.Sketch.TheVariants.{LogLog}
use Rattle.hash_rows.specs.Marks.{marked}
use Rattle.hash_rows.specs.declared.options.Options.{Options}
use Rattle.push_history.specs.Answers.{AnswerParts, parts_of}
use Rattle.journal_read.specs.Answers.{IsAnswerOf, IsSameAsked}
use Rattle.journal_read.specs.Drafts.{MayFollow, in_last, IsAnswerInTurn}
use Rattle.journal_read.specs.Entries.{line_of, Watched, Worker, Run, Answered, Live, Missed, End}
use Rattle.journal_whole.specs.declared.reading.Place.TheVariants.{Lists, Tallied, Complete}
use Rattle.journal_whole.specs.declared.reading.Reading.{Reading}
use Rattle.journal_whole.specs.Drafted.{draft_of, told_by, stage_of, IsAnswered, HasRooms, IsClearFrom, IsNextAnswer}
use Rattle.journal_whole.specs.Steps.{Reads}
use Rattle.journal_whole.proofs.Rows.{all_more, clear_on, new_clear}

pub with_keys : (r : Reading) (keys : Listed FlowKey) (k : FlowKey) (line : List ℕ) → r.place ≡ Lists → r.journal.lists.pushes.items ≡ []
    → IsKey k → length r.journal.options.watch.items < 16 → All (λ l. l ≢ k) r.journal.options.watch.items → r.journal.options.sketch ≢ LogLog
    → keys.items ≡ r.journal.options.watch.items ++ k ∷ [] → keys.room ≡ r.journal.options.watch.room → line ≡ line_of (Watched k)
    → Reads (draft_of r) (draft_of (record r { journal = record r.journal { options = record r.journal.options { watch = keys } } })) line
with_keys r keys k line at none key few new kind put room is = record {
  entry = Watched k;
  may = (ap stage_of at, none, key, few, new, kind);
  is = is;
  read = ap₂ (λ (ks : List FlowKey) (n : ℕ). record (draft_of r) { told = record (told_by r.journal) { options = record r.journal.options { watch = record { items = ks; room = n }; journal = true } } })
      (sym put) (sym room);
}

pub with_worker : (r : Reading) (rows : Listed (List Bool)) (counts : Listed ℕ) (bits : List Bool) (w p n : ℕ) (line : List ℕ) → r.place ≡ Lists → r.due ≡ 0
    → w ≡ length r.journal.lists.pushes.items → w < r.journal.options.workers → p ≤ 2 ^ 27 → r.refused + n ≤ 2 ^ 27
    → rows.items ≡ r.journal.lists.refused.items ++ bits ∷ [] → marked bits ≡ [] → counts.items ≡ r.journal.lists.pushes.items ++ p ∷ [] → line ≡ line_of (Worker w p n)
    → Reads (draft_of r) (draft_of (record { journal = record r.journal { lists = record r.journal.lists { refused = rows; pushes = counts } }; place = r.place; refused = r.refused + n; due = n; least = 0 })) line
with_worker r rows counts bits w p n line at none next more few₁ few₂ put clear counted is = record {
  entry = Worker w p n;
  may = (ap stage_of at, none, next, more, few₁, few₂);
  is = is;
  read = ap₂ (λ (rs : List (List ℕ)) (ps : List ℕ). record { stage = stage_of r.place; told = record (told_by r.journal) { refused = rs; pushes = ps }; refused = r.refused + n; due = n; least = 0 })
      (ap (λ (l : List ℕ). map marked r.journal.lists.refused.items ++ l ∷ []) (sym clear) ∙ sym (ap (map marked) put ∙ map-append marked r.journal.lists.refused.items (bits ∷ [])))
      (sym counted);
}

pub with_run : (r : Reading) (rows : Listed (List Bool)) (w a b : ℕ) (line : List ℕ) → MayFollow (draft_of r) (Run w a b)
    → map marked rows.items ≡ in_last (map marked r.journal.lists.refused.items) (range_with_len a (b + 1 - a)) → line ≡ line_of (Run w a b)
    → Reads (draft_of r) (draft_of (record { journal = record r.journal { lists = record r.journal.lists { refused = rows } }; place = r.place; refused = r.refused; due = r.due - (b + 1 - a); least = b + 1 + 1 })) line
with_run r rows w a b line may put is = record {
  entry = Run w a b;
  may = may;
  is = is;
  read = ap₂ (λ (rs : List (List ℕ)) (n : ℕ). record { stage = stage_of r.place; told = record (told_by r.journal) { refused = rs }; refused = r.refused; due = r.due - (b + 1 - a); least = n })
      (sym put) next;
}
  where
    next : b + 2 ≡ b + 1 + 1
    next = omega arith

-- an answer of the line that is to come
pub answer_at : (o : Options) (place : ℕ) (a : Answer) → IsNextAnswer o place a → a.folded < 2 ^ 64 → All (λ n. n ≤ 2 ^ 27) a.front.items → All (λ x. mag x < 2 ^ 63) a.shown.items
    → IsAnswerInTurn o place (parts_of a)
unfolding parts_of
answer_at o place a next folded front shown =
    record { reader = next.reader; number = next.number; folded = folded; front_len = next.front; front = front; shown_len = next.shown; shown = shown }

pub next_still : (o : Options) (place : ℕ) (old new : Answer) → IsSameAsked old new → IsNextAnswer o place old → IsNextAnswer o place new
next_still o place old new same next = record {
  reader = same.reader ∙ next.reader;
  number = same.number ∙ next.number;
  reader_fits = omega (arith, same.reader, next.reader_fits);
  number_fits = omega (arith, same.number, next.number_fits);
  front = same.front ∙ next.front;
  upto = ap (λ (l : Listed ℕ). l.items) same.upto ∙ next.upto;
  shown = same.shown ∙ next.shown;
}

pub answer_of : (o : Options) (place : ℕ) (old : Answer) (a : AnswerParts) → IsNextAnswer o place old → IsAnswerInTurn o place a
    → IsAnswerOf old.reader old.number (length old.front.items) (length old.shown.items) a
answer_of o place old a next at = record {
  reader = at.reader ∙ sym next.reader;
  number = at.number ∙ sym next.number;
  reader_fits = omega (arith, at.reader, next.reader, next.reader_fits);
  number_fits = omega (arith, at.number, next.number, next.number_fits);
  folded = at.folded;
  front_len = at.front_len ∙ sym next.front;
  front = λ k d lt. let small = at.front k d lt in omega (arith, small);
  shown_len = at.shown_len ∙ sym next.shown;
  shown = at.shown;
}

pub answer_back : (o : Options) (answers : List Answer) (place : ℕ) (a : AnswerParts) → place ≡ length answers
    → IsAnswerInTurn (record o { journal = true }) (length (map parts_of answers)) a → IsAnswerInTurn o place a
answer_back o answers place a first at = record {
  reader = at.reader ∙ ap (λ (n : ℕ). n / o.asks) same;
  number = at.number ∙ ap (λ (n : ℕ). n % o.asks) same;
  folded = at.folded;
  front_len = at.front_len;
  front = at.front;
  shown_len = at.shown_len;
  shown = at.shown;
}
  where
    same : length (map parts_of answers) ≡ place
    same = length-map answers parts_of ∙ sym first

-- the front of an answer
pub front_small : (new : Answer) (a : AnswerParts) → parts_of new ≡ a → All (λ n. n ≤ 2 ^ 27) a.front → All (λ n. n ≤ 2 ^ 27) new.front.items
unfolding parts_of
front_small new a is small = subst (λ (p : AnswerParts). All (λ n. n ≤ 2 ^ 27) p.front) (sym is) small

pub with_answer : (r : Reading) (answers : Listed Answer) (a : Answer) (place : ℕ) (line : List ℕ) → r.place ≡ Lists → r.due ≡ 0
    → length r.journal.lists.pushes.items ≡ r.journal.options.workers → place ≡ length r.journal.lists.answers.items
    → length r.journal.lists.answers.items < r.journal.options.readers * r.journal.options.asks
    → IsAnswerInTurn r.journal.options place (parts_of a)
    → answers.items ≡ r.journal.lists.answers.items ++ a ∷ [] → line ≡ line_of (Answered (parts_of a))
    → Reads (draft_of r) (draft_of (record r { journal = record r.journal { lists = record r.journal.lists { answers = answers } } })) line
with_answer r answers a place line at none all first more next put is = record {
  entry = Answered (parts_of a);
  may = (
    record { listing = ap stage_of at; workers = all; due = none },
    few,
    record {
      reader = next.reader ∙ ap (λ (n : ℕ). n / r.journal.options.asks) number;
      number = next.number ∙ ap (λ (n : ℕ). n % r.journal.options.asks) number;
      folded = next.folded;
      front_len = next.front_len;
      front = next.front;
      shown_len = next.shown_len;
      shown = next.shown;
    },
  );
  is = is;
  read = ap (λ (answered : List AnswerParts). record (draft_of r) { told = record (told_by r.journal) { answers = answered } })
      (sym (ap (map parts_of) put ∙ map-append parts_of r.journal.lists.answers.items (a ∷ [])));
}
  where
    number : place ≡ length (map parts_of r.journal.lists.answers.items)
    number = first ∙ sym (length-map r.journal.lists.answers.items parts_of)

    few : length (map parts_of r.journal.lists.answers.items) < r.journal.options.readers * r.journal.options.asks
    few = subst (λ (n : ℕ). n < r.journal.options.readers * r.journal.options.asks) (sym (length-map r.journal.lists.answers.items parts_of)) more

pub with_live : (r : Reading) (keys : Listed FlowKey) (k : FlowKey) (line : List ℕ) → IsAnswered (draft_of r) → IsKey k → length r.journal.lists.live.items < 1024
    → keys.items ≡ r.journal.lists.live.items ++ k ∷ [] → line ≡ line_of (Live k)
    → Reads (draft_of r) (draft_of (record r { journal = record r.journal { lists = record r.journal.lists { live = keys } } })) line
with_live r keys k line at key few put is = record {
  entry = Live k;
  may = (record { listing = at.0; workers = at.1; due = at.2 }, at.3, key, few);
  is = is;
  read = ap (λ (ks : List FlowKey). record (draft_of r) { told = record (told_by r.journal) { live = ks } }) (sym put);
}

pub with_missed : (r : Reading) (n : ℕ) (line : List ℕ) → IsAnswered (draft_of r) → n < 2 ^ 64 → line ≡ line_of (Missed n)
    → Reads (draft_of r) (draft_of (record r { journal = record r.journal { lists = record r.journal.lists { missed = n } }; place = Tallied })) line
with_missed r n line at few is = record {
  entry = Missed n;
  may = (record { listing = at.0; workers = at.1; due = at.2 }, at.3, few);
  is = is;
  read = refl;
}

pub with_end : (r : Reading) (line : List ℕ) → r.place ≡ Tallied → line ≡ line_of End → Reads (draft_of r) (draft_of (record r { place = Complete })) line
with_end r line at is = record { entry = End; may = ap stage_of at; is = is; read = refl }

-- the rooms once a worker is told of
pub rooms_worker : (r : Reading) (rows : Listed (List Bool)) (counts : Listed ℕ) (bits : List Bool) (n refused due : ℕ) → HasRooms r
    → rows.items ≡ r.journal.lists.refused.items ++ bits ∷ [] → rows.room ≡ r.journal.lists.refused.room → counts.room ≡ r.journal.lists.pushes.room → n ≡ 2 ^ 27 → bits ≡ replicate n false
    → HasRooms (record { journal = record r.journal { lists = record r.journal.lists { refused = rows; pushes = counts } }; place = r.place; refused = refused; due = due; least = 0 })
rooms_worker r rows counts bits n refused due rooms put room₁ room₂ long is = record {
  watch = rooms.watch;
  refused = room₁ ∙ rooms.refused;
  pushes = room₂ ∙ rooms.pushes;
  answers = rooms.answers;
  live = rooms.live;
  bits = subst (λ (rs : List (List Bool)). All (λ b. length b ≡ 2 ^ 27) rs) (sym put)
      (all_more (λ b. length b ≡ 2 ^ 27) r.journal.lists.refused.items bits rooms.bits (ap length is ∙ length-replicate n false ∙ long));
  clear = new_clear r.journal.lists.refused.items rows.items bits n put is;
  upto = rooms.upto;
}

-- and once a run is
pub rooms_run : (r : Reading) (rows : Listed (List Bool)) (end due : ℕ) → HasRooms r → rows.room ≡ r.journal.lists.refused.room
    → All (λ b. length b ≡ 2 ^ 27) rows.items → IsClearFrom end rows.items
    → HasRooms (record { journal = record r.journal { lists = record r.journal.lists { refused = rows } }; place = r.place; refused = r.refused; due = due; least = end + 1 })
rooms_run r rows end due rooms room long clear = record {
  watch = rooms.watch;
  refused = room ∙ rooms.refused;
  pushes = rooms.pushes;
  answers = rooms.answers;
  live = rooms.live;
  bits = long;
  clear = clear_on rows.items end (end + 1) (omega arith) clear;
  upto = rooms.upto;
}
