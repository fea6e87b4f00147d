use Rattle.std.proofs.Common.{◌≡◌, ℕ, ◌+◌, ◌-◌, ◌≤◌, List, length, get_or, take, drop, ap, ◌∙◌, subst, arith, length-drop, length-take}
use Rattle.store.specs.Images.{part}
use Rattle.store.proofs.ImageLaws.{length_overwritten, put_between}
use Rattle.paged.specs.Pages.{all_pages, bytes_before, PartOf}
use Rattle.paged.proofs.PageReads.{read_more, read_whole}
use Rattle.paged.proofs.pages.Pages.read_range.Goals as goal

pub loop-i-preserved : goal.loop-i-preserved
loop-i-preserved c =
    let s = c.args.self.now.paging in
    let all : List ℕ = all_pages s.map.now s.pool.now in
    let offset : ℕ = c.args.offset in
    let count : ℕ = length c.args.buf.now in
    let buf : List ℕ = c.loop-i.buf in
    let i : ℕ = c.loop-i.i in
    let d : ℕ = c.of-part.result.start in
    let m : ℕ = c.of-part.result.end in
    let from : ℕ = c.of-part.result.from in
    let inv = c.loop-i.invariant in
    let told = c.of-part.ensures in
    let same : length buf ≡ count = inv.long in
    let is-m : m ≡ bytes_before offset count (i + 1) = told.end ∙ ap (λ n. bytes_before offset n (i + 1)) same in
    let is-d : d ≡ bytes_before offset count i = told.start ∙ ap (λ n. bytes_before offset n i) same in
    let p = subst (λ n. PartOf offset n i d m from) same told.part in
    let order = p.order in
    let most : m ≤ length buf = omega (arith, p.most) in
    let fits : offset + m ≤ length all = omega (arith, c.requires.inside) in
    let lb : length (take (m - d) (drop d buf)) ≡ m - d = simp (length-take, length-drop) (omega arith) in
    let new : List ℕ = part all (offset + d) (m - d) in
    let ln : length new ≡ m - d = simp (length-take, length-drop) (omega arith) in
    let got = c.get.ensures ∙ ap (λ q. part all q (length (take (m - d) (drop d buf)))) p.place ∙ ap (part all (offset + d)) lb in
    let put = put_between d (m - d) buf c.get.new.buf new got (omega arith) in
    record {
      long = ap length put ∙ length_overwritten buf d new (omega arith) ∙ same;
      read = λ k h. ap (λ b. get_or b k 0) put ∙ read_more all buf offset d m order most fits (λ j l. inv.read j (omega (arith, is-d))) k (omega (arith, is-m));
    }

pub returns : goal.returns
returns c =
    let s = c.args.self.now.paging in
    let inv = c.loop-i.invariant in
    let count : ℕ = length c.args.buf.now in
    let end : bytes_before c.args.offset count c.loop-i.i ≡ count = omega (arith, c.loop-i-test.false, c.div_ceil-i-end.ensures) in
    read_whole (all_pages s.map.now s.pool.now) c.loop-i.buf c.args.offset count inv.long
    (omega (arith, c.requires.inside))
    (λ k h. inv.read k (omega (arith, end)))
