-- The entries that wait become a list.
-- Assumes nothing.
use Rattle.std.proofs.Common.{◌≡◌, ℕ, ◌+◌, ◌-◌, ◌*◌, ◌<◌, ◌≤◌, Bool, true, false, cond, ltb, List, [], ◌∷◌, ◌++◌, length, take, drop, sym, refl, ap, ◌∙◌, subst, ap₂, append-nil, arith, length-append, take-take, drop_at, ltb-false}
use mathlib.Core.Option.{Option, none, some}
use lib.ListN.{length-map}
use lib.Seq.{take-append_seam}
use Rattle.rl_spec.specs.declared.Section.TheVariants.{Texts, Lists}
use Rattle.rl_spec.specs.declared.Interval.{Interval}
use Rattle.rl_spec.specs.Image.{num, pair, Field, Rec, Image, records_of, size_of, encode_records}
use Rattle.rl_spec.specs.Make.{Context, and_then, give, made, new_list}
use Rattle.rl_images.specs.Lowering.Gives.{Gives, stops, after, weaker}
use Rattle.rl_images.specs.Lowering.Grows.{list_records, list_gives, records_own}
use Rattle.rl_encode.specs.Words.{over}
use Rattle.rl_encode.proofs.Over.{length_over}
use Rattle.rl_context.specs.declared.Ctx.{Ctx}
use Rattle.rl_context.specs.Additions.{context_of, Kept, Counted, Waiting, Live}
use Rattle.rl_context.specs.Does.{State, at, nothing, Over, Ends, Listed}
use Rattle.rl_context.proofs.Composed.{not_both, by_full, ends_full, ends_live}
use Rattle.rl_context.proofs.Regions.{drop_take, held_before, held_after, held_more}
use Rattle.rl_context.proofs.Grown.{with_lists, lists_appended}
use Rattle.rl_context.proofs.Sizes.{records_append, entries_bytes}

length_entries : (ns : List ℕ) → length (list_records ns) ≡ length ns
length_entries ns = length-map ns (λ n. made 3 (num n ∷ []))

-- where the lists are over, they stay so
list_over : (ws b : List ℕ) (x : Context) → Over (ws ++ b) x → Gives (λ (_ : Field) y. Over (ws ++ []) y) (new_list b x)
list_over ws b x h =
    weaker (list_gives b x) (λ f y n.
    record {
      sections = ap (λ z. length z.image.records) n.is ∙ lib.ListN.length-set x.image.records 1 _ ∙ h.sections;
      more =
          rw (n.is, records_own x.image Lists (records_of x.image Lists ++ list_records b) h.sections, length-append (records_of x.image Lists) (list_records b), length_entries b, append-nil ws)
          (omega (arith, h.more, length-append ws b));
    })

-- ---- no list is made

module _ (first : ℕ) (self : Ctx) (scratch w : List ℕ) (list : Interval) (t : State) (full : t.ctx.full ≡ true) where
  list_stops : ((im : Image) (k : ℕ) (ws ns : List ℕ) (x : Context) → self.full ≡ false → first ≡ length ws → Live im k x (ws ++ ns) self scratch w → new_list ns x ≡ none) →
      Listed first (at self scratch w) list t
  list_stops reason =
      record {
        listed = λ im k ws ns o q e.
            ends_full full
            (by_full (at self scratch w) (λ v. after (e.full v) (λ b x h. list_over ws b x h))
            (λ v.
            subst (λ z. Gives (λ (_ : Field) y. Over (ws ++ []) y) (and_then z new_list)) (sym (e.live v).is)
            (subst (Gives (λ (_ : Field) y. Over (ws ++ []) y)) (sym (reason im k ws ns (e.live v).here v (q v) (e.live v).live)) stops)));
      }

  pub list_full : self.full ≡ true → Listed first (at self scratch w) list t
  list_full f = list_stops (λ im k ws ns x v q l. not_both f v)

  pub list_order : self.waiting < first → Listed first (at self scratch w) list t
  list_order h = list_stops (λ im k ws ns x v q l. absurd (omega (arith, q, l.waits.count, length-append ws ns)))

  pub list_short : length scratch < 186496 → Listed first (at self scratch w) list t
  list_short h = list_stops (λ im k ws ns x v q l. absurd (omega (arith, l.kept.size)))

  pub list_waiting : length w < self.waiting → Listed first (at self scratch w) list t
  list_waiting h = list_stops (λ im k ws ns x v q l. absurd (omega (arith, l.waits.size, l.waits.few, l.waits.count)))

  pub list_many : (b : Bool) → b ≡ ltb 4096 (self.lists + (self.waiting - first)) → b ≡ true → Listed first (at self scratch w) list t
  unfolding new_list
  list_many b e g = list_stops reason
    where
      reason : (im : Image) (k : ℕ) (ws ns : List ℕ) (x : Context) → self.full ≡ false → first ≡ length ws → Live im k x (ws ++ ns) self scratch w → new_list ns x ≡ none
      reason im k ws ns x v q l =
          ap (new_list ns) l.context
          ∙ ap (λ o. and_then o (λ at. give (pair at (length ns))))
          (lists_appended im l.new self (list_records ns) self.lists l.counted.lists ∙ ap (λ z. cond z none (some (self.lists, context_of im (with_lists l.new (list_records ns)) self))) (ap (λ n. ltb 4096 (self.lists + n)) many ∙ sym e ∙ g))
        where
          many : length (list_records ns) ≡ self.waiting - first
          many = omega (arith, length_entries ns, q, l.waits.count, length-append ws ns)

-- ---- a list is made

abbrev pub enlisted : Ctx → ℕ → ℕ → Ctx
enlisted ctx count first =
    record {
      bytes = ctx.bytes;
      texts = ctx.texts;
      lists = ctx.lists + count;
      expressions = ctx.expressions;
      statements = ctx.statements;
      expression_bytes = ctx.expression_bytes;
      statement_bytes = ctx.statement_bytes;
      waiting = first;
      span = ctx.span;
      is_result = ctx.is_result;
      temp_counter = ctx.temp_counter;
      full = ctx.full;
    }

module _ (im : Image) (k : ℕ) (self : Ctx) (scratch w ws ns : List ℕ) (x : Context) (l : Live im k x (ws ++ ns) self scratch w) (few : self.lists + length ns ≤ 4096) where
  abbrev rs : List Rec
  rs = list_records ns

  abbrev c : Counted im l.new self
  c = l.counted

  list_counted : Counted im (with_lists l.new rs) (enlisted self (length ns) (length ws))
  list_counted =
      record {
        bytes = c.bytes;
        texts = c.texts;
        lists = rw (length-append l.new.lists rs, length_entries ns) (omega (arith, c.lists));
        expressions = c.expressions;
        statements = c.statements;
        few_bytes = c.few_bytes;
        few_texts = c.few_texts;
        few_lists = few;
        few_expressions = c.few_expressions;
        few_statements = c.few_statements;
        text_bytes_lem = c.text_bytes_lem;
        list_bytes =
            rw (records_append l.new.lists rs, length-append (encode_records l.new.lists) (encode_records rs), length-append l.new.lists rs, length_entries ns, entries_bytes ns)
            (omega (arith, c.list_bytes));
        expression_bytes_lem = c.expression_bytes_lem;
        statement_bytes_lem = c.statement_bytes_lem;
        low_expressions = c.low_expressions;
        low_statements = c.low_statements;
      }

  list_kept : Kept im (with_lists l.new rs) (over scratch (26624 + self.lists * 3) (encode_records rs))
  list_kept =
      record {
        size = length_over scratch to s room ∙ l.kept.size;
        bytes = held_before scratch to s near (length im.bytes) l.new.bytes (omega (arith, c.bytes, c.few_bytes)) room l.kept.bytes;
        texts = held_before scratch to s near (16384 + size_of im Texts * 5) (encode_records l.new.texts) (omega (arith, c.texts, c.few_texts, c.text_bytes_lem)) room l.kept.texts;
        lists =
            rw (records_append l.new.lists rs)
            (held_more scratch (26624 + size_of im Lists * 3) (encode_records l.new.lists) s to (omega (arith, c.lists, c.list_bytes)) room l.kept.lists);
        expressions = held_after scratch to s near 38912 (encode_records l.new.expressions) (omega (arith, entries_bytes ns)) l.kept.expressions;
        statements = held_after scratch to s near 137216 (encode_records l.new.statements) (omega (arith, entries_bytes ns)) l.kept.statements;
      }
    where
      to : ℕ
      to = 26624 + self.lists * 3

      s : List ℕ
      s = encode_records rs

      room : to + length s ≤ length scratch
      room = rw l.kept.size (omega (arith, entries_bytes ns))

      near : to ≤ length scratch
      near = omega (arith, room)

  waits_left : Waiting ws (enlisted self (length ns) (length ws)) w
  waits_left =
      record {
        size = l.waits.size;
        count = refl;
        few = omega (arith, l.waits.few, length-append ws ns);
        entries =
            sym (take-take (length ws) (length (ws ++ ns)) w (omega (arith, length-append ws ns)))
            ∙ ap (take (length ws)) l.waits.entries
            ∙ take-append_seam ws ns;
      }

  pub waited : take (length ns) (drop (length ws) w) ≡ ns
  waited =
      sym (drop_take (length ws) (length ns) w (omega (arith, l.waits.few, l.waits.size, length-append ws ns)))
      ∙ ap (λ n. drop (length ws) (take n w)) (sym (length-append ws ns))
      ∙ ap (drop (length ws)) l.waits.entries
      ∙ drop_at ws ns (length ws) refl

pub list_made : (first : ℕ) (self : Ctx) (scratch w end : List ℕ) (count : ℕ) (b : Bool) → self.full ≡ false → count ≡ self.waiting - first → b ≡ ltb 4096 (self.lists + count) → b ≡ false →
    end ≡ over scratch (26624 + self.lists * 3) (encode_records (list_records (take count (drop first w)))) →
    Listed first (at self scratch w) (record { first = self.lists; count = count }) (at (enlisted self count first) end w)
unfolding new_list
list_made first self scratch w end count b f n e q o = record { listed = λ im k ws ns r h en. go im k ws ns r (h f) (en.live f).here (en.live f).is (en.live f).live }
  where
    go : (im : Image) (k : ℕ) (ws ns : List ℕ) (r : Option (List ℕ × Context)) → first ≡ length ws → (x : Context) → r ≡ some (ns, x) → Live im k x (ws ++ ns) self scratch w →
        Ends im k nothing ws (and_then r new_list) (pair self.lists count) (at (enlisted self count first) end w)
    go im k ws ns r h x is l =
        subst (λ z. Ends im k nothing ws (and_then z new_list) (pair self.lists count) (at (enlisted self count first) end w)) (sym is)
        (subst (λ z. Ends im k nothing ws z (pair self.lists count) (at (enlisted self count first) end w)) (sym gave)
        (ends_live f
        (subst (λ z. Live im k (context_of im (with_lists l.new (list_records ns)) self) z (enlisted self count first) end w) (sym (append-nil ws))
        (record {
          new = with_lists l.new (list_records ns);
          context = refl;
          image = l.image;
          counted = subst (λ z. Counted im (with_lists l.new (list_records ns)) (enlisted self z first)) (sym many) (subst (λ z. Counted im (with_lists l.new (list_records ns)) (enlisted self (length ns) z)) (sym h) (list_counted im k self scratch w ws ns x l few));
          kept = subst (Kept im (with_lists l.new (list_records ns))) (sym written) (list_kept im k self scratch w ws ns x l few);
          waits = subst (λ z. Waiting ws (enlisted self z first) w) (sym many) (subst (λ z. Waiting ws (enlisted self (length ns) z) w) (sym h) (waits_left im k self scratch w ws ns x l few));
          temps = l.temps;
        }))))
      where
        many : count ≡ length ns
        many = omega (arith, n, h, l.waits.count, length-append ws ns)

        few : self.lists + length ns ≤ 4096
        few = omega (arith, many, ltb-false 4096 (self.lists + count) (sym e ∙ q))

        written : end ≡ over scratch (26624 + self.lists * 3) (encode_records (list_records ns))
        written = o ∙ ap (λ z. over scratch (26624 + self.lists * 3) (encode_records (list_records z))) (ap₂ (λ i j. take i (drop j w)) many h ∙ waited im k self scratch w ws ns x l few)

        gave : new_list ns x ≡ some (pair self.lists count, context_of im (with_lists l.new (list_records ns)) self)
        gave =
            ap (new_list ns) l.context
            ∙ ap (λ z. and_then z (λ at. give (pair at (length ns))))
            (lists_appended im l.new self (list_records ns) self.lists l.counted.lists
            ∙ ap (λ z. cond z none (some (self.lists, context_of im (with_lists l.new (list_records ns)) self))) (ap (λ z. ltb 4096 (self.lists + z)) (length_entries ns ∙ sym many) ∙ sym e ∙ q))
            ∙ ap (λ z. some (pair self.lists z, context_of im (with_lists l.new (list_records ns)) self)) (sym many)
