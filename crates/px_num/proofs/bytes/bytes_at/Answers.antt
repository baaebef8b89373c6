use Rattle.std.proofs.Common.{get_or}
use Rattle.px_num.proofs.ByteLemmas.{table_fits, table_long, table_at}
use Rattle.px_num.proofs.bytes.bytes_at.Goals as goal

pub swizzle : goal.swizzle
swizzle c = table_fits c.args.bytes c.args.positions c.requires.long c.requires.low

pub returns-clause-bytes : goal.returns-clause-bytes
returns-clause-bytes c = record {
  long = table_long c.args.bytes c.args.positions c.requires.long c.requires.low;
  low = λ i lt. rw (table_at c.args.bytes c.args.positions c.requires.long c.requires.low i lt)
      (c.requires.bytes.low (get_or c.args.positions i 0) (c.requires.low i lt));
}

pub returns-clause-value : goal.returns-clause-value
returns-clause-value c = table_at c.args.bytes c.args.positions c.requires.long c.requires.low
