-- Entries that wait, and the lists that they become.
-- Assumes nothing.
use Rattle.std.proofs.Common.{◌≡◌, ℕ, suc, ◌+◌, ◌*◌, ◌<◌, ◌≤◌, true, false, List, [], ◌∷◌, ◌++◌, length, get_or, take, drop, set, sym, refl, ap, ◌∙◌, subst, ap₂, append-nil, arith, length-append, length-drop, length-set, length-take-le, get_or-drop, get_or-take, Fits, w16, ◌-◌, take-suc, take-suc-set}
use Rattle.rl_spec.specs.Image.{num, Image, bytes_of, encode_records}
use Rattle.rl_spec.specs.Make.{Context, made}
use Rattle.rl_images.specs.Lowering.Gives.{Gives, gives, weaker}
use Rattle.rl_images.specs.Encoding.BytesAt.{length_bytes}
use Rattle.rl_images.specs.Lowering.Grows.{list_records}
use Rattle.rl_encode.specs.Words.{over}
use Rattle.rl_encode.proofs.Over.{over_none, over_over, length_over}
use Rattle.rl_context.specs.declared.Ctx.{Ctx}
use Rattle.rl_context.specs.Additions.{New, Counted, waiting_with, Waiting}
use Rattle.rl_context.specs.Does.{State, at, one, Over, Ends, Pushes}
use Rattle.rl_context.proofs.Composed.{by_full, ends_full, ends_live}
use Rattle.rl_context.proofs.Sizes.{records_one, entry_record, entries_bytes}

-- ---- an entry is pushed

more_over : (ws : List ℕ) {x : Context} (n : ℕ) → Over (ws ++ []) x → Over (ws ++ n ∷ []) x
more_over ws n h = record { sections = h.sections; more = rw (length-append ws (n ∷ [])) (omega (arith, h.more, length-append ws [])) }

module _ (entry : ℕ) (self : Ctx) (scratch w : List ℕ) where
  pub push_full : (t : State) → t.ctx.full ≡ true → self.full ≡ true → Pushes entry (at self scratch w) t
  push_full t g f = record { pushes = λ im k ws o e. ends_full g (weaker (e.full f) (λ b x h. more_over ws b h)) }

  pub push_many : (t : State) → t.ctx.full ≡ true → 4096 ≤ self.waiting → Pushes entry (at self scratch w) t
  push_many t g h =
      record {
        pushes = λ im k ws o e.
            ends_full g
            (by_full (at self scratch w) (λ f. weaker (e.full f) (λ b x v. more_over ws b v))
            (λ f.
            let l = e.live f in
            subst (Gives (λ b x. Over (ws ++ one b) x)) (sym l.is)
            (gives (record { sections = ap (λ z. length z.image.records) l.live.context; more = rw (length-append ws (entry ∷ [])) (omega (arith, h, l.live.waits.count, length-append ws [])) }))));
      }

-- the counts do not depend on what waits
pub counted_same : {im : Image} {new : New} {ctx : Ctx} (n : ℕ) → Counted im new ctx → Counted im new (waiting_with ctx n)
counted_same n c =
    record {
      bytes = c.bytes;
      texts = c.texts;
      lists = c.lists;
      expressions = c.expressions;
      statements = c.statements;
      few_bytes = c.few_bytes;
      few_texts = c.few_texts;
      few_lists = c.few_lists;
      few_expressions = c.few_expressions;
      few_statements = c.few_statements;
      text_bytes_lem = c.text_bytes_lem;
      list_bytes = c.list_bytes;
      expression_bytes_lem = c.expression_bytes_lem;
      statement_bytes_lem = c.statement_bytes_lem;
      low_expressions = c.low_expressions;
      low_statements = c.low_statements;
    }

one_more : (ws : List ℕ) (self : Ctx) (w : List ℕ) (n : ℕ) → self.waiting < 4096 → Waiting ws self w → Waiting (ws ++ n ∷ []) (waiting_with self (self.waiting + 1)) (set w self.waiting n)
one_more ws self w n h v =
    record {
      size = length-set w self.waiting n ∙ v.size;
      count = rw (length-append ws (n ∷ [])) (omega (arith, v.count));
      few = rw (length-append ws (n ∷ [])) (omega (arith, v.count));
      entries =
          ap₂ (λ k i. take k (set w i n)) (length-append ws (n ∷ []) ∙ ends) v.count
          ∙ take-suc-set w (length ws) n (omega (arith, v.count, v.size))
          ∙ ap (λ l. l ++ n ∷ []) v.entries;
    }
  where
    ends : length ws + 1 ≡ suc (length ws)
    ends = omega arith

pub push_made : (entry : ℕ) (self : Ctx) (scratch w end : List ℕ) → self.full ≡ false → self.waiting < 4096 → end ≡ set w self.waiting entry →
    Pushes entry (at self scratch w) (at (waiting_with self (self.waiting + 1)) scratch end)
push_made entry self scratch w end f h q =
    record {
      pushes = λ im k ws o e.
          let l = e.live f in
          subst (λ z. Ends im k one ws z entry (at (waiting_with self (self.waiting + 1)) scratch end)) (sym l.is)
          (ends_live f
          (record {
            new = l.live.new;
            context = l.live.context;
            image = l.live.image;
            counted = counted_same (self.waiting + 1) l.live.counted;
            kept = l.live.kept;
            waits = subst (Waiting (ws ++ entry ∷ []) (waiting_with self (self.waiting + 1))) (sym q) (one_more ws self w entry h (subst (λ z. Waiting z self w) (append-nil ws) l.live.waits));
            temps = l.live.temps;
          }));
    }

-- ---- entries become records

entries_append : (a : List ℕ) (n : ℕ) → list_records (a ++ n ∷ []) ≡ list_records a ++ made 3 (num n ∷ []) ∷ []
entries_append [] n = refl
entries_append (m ∷ a) n = ap (λ l. made 3 (num m ∷ []) ∷ l) (entries_append a n)

pub record Entering (out₀ w : List ℕ) (to first count : ℕ) (out : List ℕ) (i : ℕ) : Type 0 where
  pub room : to + count * 3 ≤ length out₀
  pub more : first + count ≤ length w
  pub some : i ≤ count
  pub size : length out ≡ length out₀
  pub is : out ≡ over out₀ to (encode_records (list_records (take i (drop first w))))

pub entering_none : (out w : List ℕ) (to first count : ℕ) → to + count * 3 ≤ length out → first + count ≤ length w → Entering out w to first count out 0
unfolding encode_records
entering_none out w to first count room more = record { room = room; more = more; some = omega arith; size = refl; is = sym (over_none out to) }

module _ (out₀ w : List ℕ) (to first count : ℕ) (out : List ℕ) (i : ℕ) (e : Entering out₀ w to first count out i) where
  pub entering_room : i < count → to + i * 3 + 3 ≤ length out
  entering_room h = rw e.size (omega (arith, e.room))

  entering_more : (next : List ℕ) (n : ℕ) → i < count → n < 65536 → n ≡ get_or w (first + i) 0 → next ≡ over out (to + i * 3) (bytes_of 3 (3 + n * 256)) →
      Entering out₀ w to first count next (i + 1)
  entering_more next n h small g q =
      record {
        room = e.room;
        more = e.more;
        some = omega arith;
        size = ap length q ∙ length_over out (to + i * 3) (bytes_of 3 (3 + n * 256)) (rw (length_bytes 3 (3 + n * 256)) (entering_room h)) ∙ e.size;
        is =
            q
            ∙ ap₂ (λ o k. over o k (bytes_of 3 (3 + n * 256))) e.is at_end_lem
            ∙ over_over out₀ to written (bytes_of 3 (3 + n * 256)) (omega (arith, e.room))
            ∙ ap (over out₀ to) (ap (λ s. written ++ s) (sym (entry_record n small)) ∙ sym (records_one (list_records front) (made 3 (num n ∷ []))) ∙ ap encode_records (sym (entries_append front n) ∙ ap list_records longer));
      }
    where
      front : List ℕ
      front = take i (drop first w)

      written : List ℕ
      written = encode_records (list_records front)

      long : i < length (drop first w)
      long = rw length-drop (omega (arith, e.more))

      at_end_lem : to + i * 3 ≡ to + length written
      at_end_lem = omega (arith, entries_bytes front, length-take-le i (drop first w) (omega (arith, long)))

      longer : front ++ n ∷ [] ≡ take (i + 1) (drop first w)
      longer =
          ap (λ m. front ++ m ∷ []) (g ∙ sym (get_or-drop first w i 0))
          ∙ sym (take-suc (drop first w) i 0 long)
          ∙ ap (λ k. take k (drop first w)) next_count
        where
          next_count : suc i ≡ i + 1
          next_count = omega arith

  -- with the element of the part that the code goes through
  pub entering_next : (next : List ℕ) → i < length (take (first + count - first) (drop first w)) → ((k : ℕ) → Fits w16 (get_or w k 0)) →
      next ≡ over out (to + i * 3) (bytes_of 3 (3 + get_or (take (first + count - first) (drop first w)) i 0 * 256)) → Entering out₀ w to first count next (i + 1)
  entering_next next h fits q = entering_more next _ below (subst (λ n. n < 65536) (sym element) (omega (arith, fits (first + i)))) element q
    where
      many : first + count - first ≡ count
      many = omega arith

      long : first + count - first ≤ length (drop first w)
      long = rw length-drop (omega (arith, e.more))

      below : i < count
      below = omega (arith, h, many, length-take-le (first + count - first) (drop first w) long)

      element : get_or (take (first + count - first) (drop first w)) i 0 ≡ get_or w (first + i) 0
      element = get_or-take (first + count - first) (drop first w) i 0 (omega (arith, below)) ∙ get_or-drop first w i 0

  pub entering_all : count ≤ i → out ≡ over out₀ to (encode_records (list_records (take count (drop first w))))
  entering_all h = e.is ∙ ap (λ k. over out₀ to (encode_records (list_records (take k (drop first w))))) same
    where
      same : i ≡ count
      same = omega (arith, e.some)
