-- What is printed and what is left are the whole, which has room.
use Rattle.std.proofs.Common.{[], ◌∷◌, ap, arith, length, refl, string_bytes}
use Rattle.std.proofs.lemmas.List.{length-append}
use lib.Utf8.{encode}
use Rattle.cpu_list.specs.CanonicalList.{list_text, range_text}
use Rattle.cpu_list.specs.TextAfter.{text_after}
use Rattle.cgroup_tree.specs.LineLemmas.{list_short, more_within, now_long, printed_more, text_left, text_whole}
use Rattle.cgroup_tree.proofs.line.write_line.Goals as goal

pub loop-first-init : goal.loop-first-init
loop-first-init c = (
  tt,
  tt,
  ([], (refl, refl)),
  rw (c.clear.ensures.bytes, c.into_iter-first-iterator.ensures.into_iter_gives, c.of-first-items.ensures) (text_whole _),
  omega (arith, c.clear.ensures.len, ap length c.clear.ensures.bytes),
  omega (arith, c.requires, c.clear.ensures.capacity),
  omega (arith, c.clear.ensures.capacity),
)

pub push_within-requires : goal.push_within-requires
push_within-requires c =
    let is = c.loop-first.invariant in
    omega (
      arith,
      is.4,
      is.5,
      list_short c.args.ids.now 4096 refl,
      more_within (list_text c.args.ids.now) (string_bytes c.loop-first.line) (text_after c.loop-first.separator.now c.loop-first.first-iterator) c.loop-first.separator.now
          (range_text (c.in-Some.first, c.in-Some.last)) _ is.3 (text_left c.loop-first.first-iterator _ (c.in-Some.first, c.in-Some.last) c.loop-first.separator.now c.in-Some.ensures.steps),
    )

pub push_range-requires : goal.push_range-requires
push_range-requires c =
    let is = c.loop-first.invariant in
    omega (
      arith,
      is.4,
      is.5,
      c.push_within.ensures.len,
      c.push_within.ensures.capacity,
      list_short c.args.ids.now 4096 refl,
      more_within (list_text c.args.ids.now) (string_bytes c.loop-first.line) (text_after c.loop-first.separator.now c.loop-first.first-iterator) c.loop-first.separator.now
          (range_text (c.in-Some.first, c.in-Some.last)) _ is.3 (text_left c.loop-first.first-iterator _ (c.in-Some.first, c.in-Some.last) c.loop-first.separator.now c.in-Some.ensures.steps),
    )

pub loop-first-preserved : goal.loop-first-preserved
unfolding encode
loop-first-preserved c =
    let is = c.loop-first.invariant in (
      tt,
      tt,
      (44 ∷ [], (refl, refl)),
      printed_more _ _ _ _ _ _ _ _ is.3 (text_left _ _ _ _ c.in-Some.ensures.steps) c.push_within.ensures.bytes c.push_range.ensures.bytes,
      omega (
        arith,
        is.4,
        c.push_within.ensures.len,
        c.push_range.ensures.len,
        now_long (string_bytes c.loop-first.line) (string_bytes c.push_within.new.text) (string_bytes c.push_range.new.text) c.loop-first.separator.now
            (range_text (c.in-Some.first, c.in-Some.last)) c.push_within.ensures.bytes c.push_range.ensures.bytes,
      ),
      omega (arith, is.5, c.push_within.ensures.capacity, c.push_range.ensures.capacity),
      omega (arith, is.6, c.push_within.ensures.capacity, c.push_range.ensures.capacity),
    )

pub push_within-requires-2 : goal.push_within-requires-2
push_within-requires-2 c =
    let is = c.loop-first.invariant in
    omega (
      arith,
      is.4,
      is.5,
      list_short c.args.ids.now 4096 refl,
      ap length is.3,
      length-append (string_bytes c.loop-first.line) (text_after c.loop-first.separator.now c.loop-first.first-iterator),
    )
